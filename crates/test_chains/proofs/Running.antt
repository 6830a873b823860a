-- A run of calls on a chain, one call more; and the chain of the text that a run handed over.
use Rattle.std.proofs.Common.{◌≡◌, ℕ, zero, suc, ◌+◌, ◌*◌, ◌<◌, ◌≤◌, List, [], ◌∷◌, ◌++◌, length, take, drop, get_or, nat_eq, Result, cond, sym, ap, ap₂, ◌∙◌, refl, append-nil, append_assoc, inl, inr, arith}
use Rattle.std.specs.Global.{Vec}
use Rattle.std.proofs.Math.Dec.{ltb}
use Rattle.std.proofs.lemmas.Bool.{cond-true, cond-false, cases_Bool, cond_both, ltb-false, ltb-true, true≢false}
use Rattle.std.proofs.lemmas.Bool.Decides.{Decides-eqb}
use Rattle.std.proofs.lemmas.List.{length-append, length-drop, take_more, take-append-le, drop-append-le, take_all, drop_at}
use Rattle.faults.specs.declared.ModeFault.{ModeFault}
use Rattle.cipher.specs.Meaning.{BlockFunction}
use Rattle.modes.specs.Bytes.{padded, full_blocks, block_at, tail_of}
use Rattle.modes.specs.Chains.{link, links, chain, TakesBlock, TakesTail}
use Rattle.modes.proofs.Linking.{links_more}
use Rattle.test_chains.specs.declared.runs.Piece.{Piece}
use Rattle.test_chains.specs.declared.runs.Piece.TheVariants.{Block, Tail}
use Rattle.test_chains.specs.Runs.{blocks, last_tail, handed}

-- what a chain takes of a block, and of a tail
abbrev taken : List ℕ → List ℕ
taken bytes = cond (nat_eq (length bytes) 32) bytes []

abbrev kept : (before : List ℕ) → List ℕ → List ℕ
kept before bytes = cond (ltb 31 (length bytes)) before bytes

blocks-append : (ps qs : List Piece) → blocks (ps ++ qs) ≡ blocks ps ++ blocks qs
unfolding blocks
blocks-append [] qs = refl
blocks-append (Block v ∷ ps) qs =
    ap (λ t. taken v.items ++ t) (blocks-append ps qs) ∙ sym (append_assoc (taken v.items) (blocks ps) (blocks qs))
blocks-append (Tail v ∷ ps) qs = blocks-append ps qs

last-append : (before : List ℕ) (ps qs : List Piece) → last_tail before (ps ++ qs) ≡ last_tail (last_tail before ps) qs
unfolding last_tail
last-append before [] qs = refl
last-append before (Block v ∷ ps) qs = last-append before ps qs
last-append before (Tail v ∷ ps) qs = last-append (kept before v.items) ps qs

-- the blocks are whole, and the tail is short
abbrev Whole : List ℕ → Type 0
Whole bs = length bs ≡ 32 * full_blocks bs

whole-append : (a b : List ℕ) → length a ≡ 32 → Whole b → Whole (a ++ b)
whole-append a b l h = let m : length (a ++ b) ≡ length a + length b = length-append a b in omega (arith, l, h, m)

pub whole : (ps : List Piece) → length (blocks ps) ≡ 32 * full_blocks (blocks ps)
unfolding blocks
whole [] = refl
whole (Block v ∷ ps) =
    cond_both (nat_eq (length v.items) 32) v.items [] (λ b. Whole (b ++ blocks ps))
    (λ e. whole-append v.items (blocks ps) ((Decides-eqb (length v.items) 32).0 e) (whole ps))
    (λ e. whole ps)
whole (Tail v ∷ ps) = whole ps

last_short : (ps : List Piece) (before : List ℕ) → length before ≤ 31 → length (last_tail before ps) ≤ 31
unfolding last_tail
last_short [] before h = h
last_short (Block v ∷ ps) before h = last_short ps before h
last_short (Tail v ∷ ps) before h =
    last_short ps (kept before v.items)
    (cond_both (ltb 31 (length v.items)) before v.items (λ b. length b ≤ 31) (λ e. h) (λ e. ltb-false 31 (length v.items) e))

-- the links over the full blocks at the front of a text
module _ (f : BlockFunction) (D R : ℕ) (t bs : List ℕ) where
  block_front : (more : List ℕ) (n : ℕ) → 32 * n + 32 ≤ length bs → block_at (bs ++ more) n ≡ block_at bs n
  unfolding block_at
  block_front more n h =
      let l : 32 * n ≤ length bs = omega arith in
      let m : 32 ≤ length (drop (32 * n) bs) = omega (arith, length-drop (32 * n) bs) in
      ap (take 32) (drop-append-le (32 * n) bs more l) ∙ take-append-le 32 (drop (32 * n) bs) more m

  links_front : (more : List ℕ) (n : ℕ) → 32 * n ≤ length bs → links f D R t (bs ++ more) n ≡ links f D R t bs n
  unfolding links
  links_front more zero h = refl
  links_front more (suc n) h =
      ap (λ v. link f D R v (block_at (bs ++ more) n)) (links_front more n (omega arith))
      ∙ ap (link f D R (links f D R t bs n)) (block_front more n (omega arith))

  module _ (h : length bs ≡ 32 * full_blocks bs) where
    pub links_block : (b : List ℕ) → length b ≡ 32
        → links f D R t (bs ++ b) (full_blocks (bs ++ b)) ≡ link f D R (links f D R t bs (full_blocks bs)) b
    unfolding block_at
    links_block b l =
        let n = full_blocks bs in
        let m : length (bs ++ b) ≡ length bs + length b = length-append bs b in
        let one_more : full_blocks (bs ++ b) ≡ n + 1 = omega (arith, m, l, h) in
        let last : block_at (bs ++ b) n ≡ b = ap (take 32) (drop_at bs b (32 * n) h) ∙ take_all 32 b (omega arith) in
        ap (links f D R t (bs ++ b)) one_more ∙ links_more f D R t (bs ++ b) n
        ∙ ap (λ v. link f D R v (block_at (bs ++ b) n)) (links_front b n (omega arith))
        ∙ ap (link f D R (links f D R t bs n)) last

    pub chain_handed : (last : ℕ) (tail : List ℕ) → length tail ≤ 31
        → link f last R (links f D R t bs (full_blocks bs)) (padded 32 tail) ≡ chain f D last R t (bs ++ tail)
    unfolding tail_of
    chain_handed last tail l =
        let n = full_blocks bs in
        let m : length (bs ++ tail) ≡ length bs + length tail = length-append bs tail in
        let same : n ≡ full_blocks (bs ++ tail) = omega (arith, m, l, h) in
        let rest : tail ≡ tail_of (bs ++ tail) = sym (drop_at bs tail (32 * n) h) ∙ ap (λ k. drop (32 * k) (bs ++ tail)) same in
        ap (λ v. link f last R v (padded 32 tail)) (sym (links_front tail n (omega arith)) ∙ ap (links f D R t (bs ++ tail)) same)
        ∙ ap (λ b. link f last R (links f D R t (bs ++ tail) (full_blocks (bs ++ tail))) (padded 32 b)) rest

-- what closing a chain gives after a run
pub closed : (f g : BlockFunction) (D last R : ℕ) (t value tail : List ℕ) (ps qs : List Piece)
    → g ≡ f → qs ≡ ps → value ≡ links f D R t (blocks qs) (full_blocks (blocks qs)) → tail ≡ padded 32 (last_tail [] qs)
    → link g last R value tail ≡ chain f D last R t (handed ps)
closed f g D last R t value tail ps qs same all was told =
    ap (λ k. link k last R value tail) same
    ∙ ap₂ (link f last R) (was ∙ ap (λ q. links f D R t (blocks q) (full_blocks (blocks q))) all) (told ∙ ap (λ q. padded 32 (last_tail [] q)) all)
    ∙ chain_handed f D R t (blocks ps) (whole ps) last (last_tail [] ps) (last_short ps [] (omega arith))

-- piece i of a run, and the bytes that its call is handed
module _ (ps : List Piece) (i : ℕ) (p : Piece) (v : Vec ℕ) (s : List ℕ) (within : i < length ps) (here : p ≡ get_or ps i p) (bytes : s ≡ v.items) where
  more : take (i + 1) ps ≡ take i ps ++ (p ∷ [])
  more = take_more ps i p within ∙ ap (λ q. take i ps ++ (q ∷ [])) (sym here)

  module _ (block : p ≡ Block v) where
    blocks_now : blocks (take (i + 1) ps) ≡ blocks (take i ps) ++ taken s
    unfolding blocks
    blocks_now =
        ap blocks more ∙ blocks-append (take i ps) (p ∷ [])
        ∙ ap (λ q. blocks (take i ps) ++ blocks (q ∷ [])) block
        ∙ ap (λ b. blocks (take i ps) ++ b) (append-nil (taken v.items)) ∙ ap (λ b. blocks (take i ps) ++ taken b) (sym bytes)

    pub block_value : (f : BlockFunction) (D R : ℕ) (t : List ℕ) (g : BlockFunction) (value : List ℕ) (answer : Result (Unit {0}) ModeFault) (after : List ℕ)
        → g ≡ f → value ≡ links f D R t (blocks (take i ps)) (full_blocks (blocks (take i ps)))
        → TakesBlock g D R s value answer after
        → after ≡ links f D R t (blocks (take (i + 1) ps)) (full_blocks (blocks (take (i + 1) ps)))
    block_value f D R t g value answer after same was takes =
        let bs = blocks (take i ps) in
        let so : List ℕ → Type 0 = λ b. after ≡ links f D R t b (full_blocks b) in
        elim (cases_Bool (nat_eq (length s) 32)) [
          | inl e ↦
              let l : length s ≡ 32 = (Decides-eqb (length s) 32).0 e in
              let now : blocks (take (i + 1) ps) ≡ bs ++ s = blocks_now ∙ ap (λ b. bs ++ b) (cond-true _ s [] e) in
              (takes.1 (λ n. n l)).1 ∙ ap (λ k. link k D R value s) same ∙ ap (λ k. link f D R k s) was
              ∙ sym (links_block f D R t bs (whole (take i ps)) s l) ∙ ap (λ b. links f D R t b (full_blocks b)) (sym now)
          | inr e ↦
              let n : length s ≡ 32 → ⊥ = λ q. true≢false (sym ((Decides-eqb (length s) 32).1 q) ∙ e) in
              let now : blocks (take (i + 1) ps) ≡ bs = blocks_now ∙ ap (λ b. bs ++ b) (cond-false _ s [] e) ∙ append-nil bs in
              (takes.0 n).1 ∙ was ∙ ap (λ b. links f D R t b (full_blocks b)) (sym now)
        ]

    pub block_tail : last_tail [] (take (i + 1) ps) ≡ last_tail [] (take i ps)
    unfolding last_tail
    block_tail =
        ap (last_tail []) more ∙ last-append [] (take i ps) (p ∷ [])
        ∙ ap (λ q. last_tail (last_tail [] (take i ps)) (q ∷ [])) block

  module _ (told : p ≡ Tail v) where
    pub tail_blocks : blocks (take (i + 1) ps) ≡ blocks (take i ps)
    unfolding blocks
    tail_blocks =
        ap blocks more ∙ blocks-append (take i ps) (p ∷ [])
        ∙ ap (λ q. blocks (take i ps) ++ blocks (q ∷ [])) told ∙ append-nil (blocks (take i ps))

    tail_now : last_tail [] (take (i + 1) ps) ≡ kept (last_tail [] (take i ps)) s
    unfolding last_tail
    tail_now =
        ap (last_tail []) more ∙ last-append [] (take i ps) (p ∷ [])
        ∙ ap (λ q. last_tail (last_tail [] (take i ps)) (q ∷ [])) told ∙ ap (kept (last_tail [] (take i ps))) (sym bytes)

    pub tail_tail : (before : List ℕ) (answer : Result (Unit {0}) ModeFault) (after : List ℕ)
        → before ≡ padded 32 (last_tail [] (take i ps)) → TakesTail s before answer after
        → after ≡ padded 32 (last_tail [] (take (i + 1) ps))
    tail_tail before answer after was takes =
        let kept_one = last_tail [] (take i ps) in
        elim (cases_Bool (ltb 31 (length s))) [
          | inl e ↦ (takes.0 (ltb-true 31 (length s) e)).1 ∙ was ∙ ap (padded 32) (sym (tail_now ∙ cond-true _ kept_one s e))
          | inr e ↦
              let l : length s ≤ 31 = ltb-false 31 (length s) e in
              (takes.1 (λ n. omega arith)).1 ∙ ap (padded 32) (sym (tail_now ∙ cond-false _ kept_one s e))
        ]
