-- The cipher gives blocks, back undoes forward, and each shift takes its nibbles where it should.
use Rattle.std.proofs.Common.{◌≡◌, ℕ, zero, suc, ◌*◌, ◌/◌, ◌%◌, Bool, true, false, cond, eqb, List, sym, refl, ap, ◌∙◌, arith}
use Rattle.std.proofs.lemmas.Bool.{eq-eqb, ne_eqb}
use Rattle.saturnin.specs.Cube.{Cube, to_cube}
use Rattle.saturnin.specs.Layers.{S, slice_to, sheet_to, SR, SR⁻¹, MC, add}
use Rattle.saturnin.specs.Rounds.{RC₀, RC₁, constants, rotated, round_key, add_subkey, round, rounds, forward}
use Rattle.saturnin.specs.Back.{MC⁻¹, round⁻¹, rounds⁻¹, back}
use Rattle.cipher.specs.Meaning.{Bytes, GivesBlocks, TwoWay}
use Rattle.saturnin.specs.Shifts.{Moves, ShiftsMove}
use Rattle.saturnin.proofs.Inverse.{Good, slices_move, sheets_move, S_good, S⁻¹_good, S_undone, S_redone, SR_good, SR⁻¹_good, SR_undone, SR_redone, rotated_good, add_good, add_undone, constants_good, MC_good, MC⁻¹_good, MC_undone, MC_redone}
use Rattle.saturnin.proofs.Conversions.{to-cube-good, from-cube-bytes, to-from, from-to}

module _ (k : Cube) (gk : Good k) (D R : ℕ) where
  key_good : (r : ℕ) → Good (round_key k r)
  unfolding round_key
  key_good r = go (eqb (r % 4) 3)
    where
      go : (t : Bool) → Good (cond t k (rotated k))
      go true = gk
      go false = rotated_good k gk

  -- a sub-key that is added twice is gone
  module _ (r : ℕ) (s : Cube) (h : Good s) where
    subkey : Cube
    subkey = add (constants (RC₀ D R (r / 2)) (RC₁ D R (r / 2))) (round_key k r)

    subkey_good : Good subkey
    unfolding subkey
    subkey_good = add_good _ _ (constants_good _ _) (key_good r)

    added_good : Good (add_subkey k D R r s)
    unfolding add_subkey subkey
    added_good = go (eqb (r % 2) 0)
      where
        go : (t : Bool) → Good (cond t s (add subkey s))
        go true = h
        go false = add_good _ _ subkey_good h

    added_undone : add_subkey k D R r (add_subkey k D R r s) ≡ s
    unfolding add_subkey subkey
    added_undone = go (eqb (r % 2) 0)
      where
        go : (t : Bool) → cond t (cond t s (add subkey s)) (add subkey (cond t s (add subkey s))) ≡ s
        go true = refl
        go false = add_undone subkey s h

  module _ (r : ℕ) (s : Cube) (h : Good s) where
    middle_good : Good (SR⁻¹ r (MC (SR r (S s))))
    middle_good = SR⁻¹_good r _ (MC_good _ (SR_good r _ (S_good s h)))

    middle⁻¹_good : Good (SR⁻¹ r (MC⁻¹ (SR r s)))
    middle⁻¹_good = SR⁻¹_good r _ (MC⁻¹_good _ (SR_good r s h))

    round_good : Good (round k D R r s)
    unfolding round
    round_good = added_good r _ middle_good

    round_undone : round⁻¹ k D R r (round k D R r s) ≡ s
    unfolding round round⁻¹
    round_undone =
        let p : Good (SR r (S s)) = SR_good r _ (S_good s h) in
        rw (added_undone r _ middle_good, SR_redone r _ (MC_good _ p).long, MC_undone _ p, SR_undone r _ (S_good s h).long, S_undone s h)

  module _ (r : ℕ) (s : Cube) (h : Good s) where
    round⁻¹_good : Good (round⁻¹ k D R r s)
    unfolding round⁻¹
    round⁻¹_good = S⁻¹_good _ (middle⁻¹_good r _ (added_good r s h))

    round_redone : round k D R r (round⁻¹ k D R r s) ≡ s
    unfolding round round⁻¹
    round_redone =
        let a : Good (add_subkey k D R r s) = added_good r s h in
        let p : Good (SR r (add_subkey k D R r s)) = SR_good r _ a in
        rw (S_redone _ (middle⁻¹_good r _ a), SR_redone r _ (MC⁻¹_good _ p).long, MC_redone _ p, SR_undone r _ a.long, added_undone r s h)

  rounds_good : (n : ℕ) (s : Cube) → Good s → Good (rounds k D R n s)
  unfolding rounds
  rounds_good zero s h = h
  rounds_good (suc n) s h = round_good n _ (rounds_good n s h)

  rounds⁻¹_good : (n : ℕ) (s : Cube) → Good s → Good (rounds⁻¹ k D R n s)
  unfolding rounds⁻¹
  rounds⁻¹_good zero s h = h
  rounds⁻¹_good (suc n) s h = rounds⁻¹_good n _ (round⁻¹_good n s h)

  rounds_undone : (n : ℕ) (s : Cube) → Good s → rounds⁻¹ k D R n (rounds k D R n s) ≡ s
  unfolding rounds rounds⁻¹
  rounds_undone zero s h = refl
  rounds_undone (suc n) s h = ap (rounds⁻¹ k D R n) (round_undone n _ (rounds_good n s h)) ∙ rounds_undone n s h

  rounds_redone : (n : ℕ) (s : Cube) → Good s → rounds k D R n (rounds⁻¹ k D R n s) ≡ s
  unfolding rounds rounds⁻¹
  rounds_redone zero s h = refl
  rounds_redone (suc n) s h = ap (round k D R n) (rounds_redone n _ (round⁻¹_good n s h)) ∙ round_redone n s h

pub forward-gives_blocks : GivesBlocks forward
unfolding forward
forward-gives_blocks key D R block h = from-cube-bytes _

pub back-forward : (key : List ℕ) (D R : ℕ) (b : List ℕ) → Bytes 32 b → back key D R (forward key D R b) ≡ b
unfolding forward back
back-forward key D R b h =
    let k : Cube = to_cube key in
    let gk : Good k = to-cube-good key in
    let gs : Good (to_cube b) = to-cube-good b in
    let ga : Good (add k (to_cube b)) = add_good k _ gk gs in
    rw (to-from _ (rounds_good k gk D R (2 * R) _ ga), rounds_undone k gk D R (2 * R) _ ga, add_undone k _ gs, from-to b h)

pub forward_back : (key : List ℕ) (D R : ℕ) (b : List ℕ) → Bytes 32 b → forward key D R (back key D R b) ≡ b
unfolding forward back
forward_back key D R b h =
    let k : Cube = to_cube key in
    let gk : Good k = to-cube-good key in
    let gb : Good (rounds⁻¹ k D R (2 * R) (to_cube b)) = rounds⁻¹_good k gk D R (2 * R) _ (to-cube-good b) in
    rw (to-from _ (add_good k _ gk gb), add_undone k _ gb, rounds_redone k gk D R (2 * R) _ (to-cube-good b), from-to b h)

pub forward-two_way : TwoWay forward back
unfolding back
forward-two_way key D R given h = record {
  whole = from-cube-bytes _;
  goes_there = forward_back key D R given h.block_whole;
  only = λ other b e. sym (back-forward key D R other b) ∙ ap (back key D R) e;
}

-- the shift of round r by r mod 4
module _ (r : ℕ) where
  even : r % 2 ≡ 0 → Moves (SR r) (λ i. i)
  unfolding SR
  even e s i h = rw (ne_eqb (r % 4) 1 (λ q. omega arith), ne_eqb (r % 4) 3 (λ q. omega arith))

  one : r % 4 ≡ 1 → Moves (SR r) slice_to
  unfolding SR
  one e s i h = rw (eq-eqb (r % 4) 1 e) (slices_move s i h)

  three : r % 4 ≡ 3 → Moves (SR r) sheet_to
  unfolding SR
  three e s i h = rw (ne_eqb (r % 4) 1 (λ q. omega arith), eq-eqb (r % 4) 3 e) (sheets_move s i h)

pub shifts-move : ShiftsMove
shifts-move r = record { none = even r; slices = one r; sheets = three r; undone = SR_undone r }
