use Rattle.std.proofs.Common.{◌≡◌, ℕ, length, take, replicate, ap, ◌∙◌, arith, rules}
use Rattle.std.proofs.lemmas.List.{length-take, length-replicate, take_at}
use Rattle.faults.proofs.Results.{handed_on}
use Rattle.records.specs.Sheets.{associated}
use Rattle.sealing.proofs.Reading.{form_refused, text_long, open_refused, open_done}
use Rattle.sealing.proofs.locks.PlaceLock.message_in.Goals as goal

pub returns-in_err-text : goal.returns-in_err-text
returns-in_err-text g c =
    let s = c.args.self.now in
    rw (handed_on _ c.from_residual.result c.from_residual.ensures.1)
    (form_refused (g.C.Cipher.forward s.cipher.now) s.key.now s.place c.args.bytes.now c.in_err-text.field-0.0 c.in_err-text.ensures)

pub returns-in_err-open : goal.returns-in_err-open
returns-in_err-open g c =
    let s = c.args.self.now in
    let key-long : length s.key.now ≡ 32 = search rules in
    let ok = c.in_ok-text.ensures in
    let n = length c.in_ok-text.text.now in
    let room : length c.deref_mut.result.now ≡ n =
    ap length (c.deref_mut.ensures.value ∙ c.truncate.ensures.items ∙ ap (take n) c.from-message.ensures.0) ∙ length-take n (replicate 928 0)
    ∙ omega (arith, ap length ok.0, text_long c.args.bytes.now c.told-bytes ok.2, ok.2.0, length-replicate {A = ℕ} 928 0) in
    rw (handed_on _ c.from_residual-in_err-open.result c.from_residual-in_err-open.ensures.1)
    (open_refused (g.C.Cipher.forward s.cipher.now) s.key.now s.place c.args.bytes.now key-long c.told-bytes ok.1 ok.2 _ _ _ _ _ _ _
    c.nonce.ensures (c.associated-associated.ensures ∙ ap (associated s.place) c.head.ensures) ok.0 c.tag.ensures room c.open.ensures.opens _ c.in_err-open.was)

pub returns : goal.returns
returns g c =
    let s = c.args.self.now in
    let key-long : length s.key.now ≡ 32 = search rules in
    let ok = c.in_ok-text.ensures in
    let n = length c.in_ok-text.text.now in
    let room : length c.deref_mut.result.now ≡ n =
    ap length (c.deref_mut.ensures.value ∙ c.truncate.ensures.items ∙ ap (take n) c.from-message.ensures.0) ∙ length-take n (replicate 928 0)
    ∙ omega (arith, ap length ok.0, text_long c.args.bytes.now c.told-bytes ok.2, ok.2.0, length-replicate {A = ℕ} 928 0) in
    let all = open_done (g.C.Cipher.forward s.cipher.now) s.key.now s.place c.args.bytes.now key-long c.told-bytes ok.1 ok.2 _ _ _ _ _ _ _
    c.nonce.ensures (c.associated-associated.ensures ∙ ap (associated s.place) c.head.ensures) ok.0 c.tag.ensures room c.open.ensures.opens c.in_ok-open.was in
    let e = take_at c.open.new.out _ (length c.truncate.new.self.items) (c.open.auto.out ∙ ap length c.deref_mut.ensures.value) in
    (all.0, ap length e ∙ all.1, e ∙ all.2)
