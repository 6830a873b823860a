-- Two rounds at once are the rounds of the cipher.
use Rattle.std.proofs.Common.{◌≡◌, ℕ, suc, ◌+◌, ◌*◌, ◌/◌, ◌%◌, sym, ap, ◌∙◌, arith}
use Rattle.std.proofs.lemmas.Bool.{eq-eqb, ne_eqb}
use Rattle.saturnin.specs.Cube.{Cube}
use Rattle.saturnin.specs.Layers.{S, SR_slice, SR_slice⁻¹, SR_sheet, SR_sheet⁻¹, SR, SR⁻¹, MC, add}
use Rattle.saturnin.specs.Rounds.{RC₀, RC₁, constants, rotated, round_key, add_subkey, round, rounds}
use Rattle.saturnin.specs.Back.{S⁻¹, MC⁻¹, round⁻¹, rounds⁻¹}
use Rattle.saturnin.specs.TwoRounds.{super_round, super_round⁻¹}
use Rattle.saturnin.proofs.Inverse.{add-add}

module _ (k : Cube) (D R : ℕ) where
  -- an even round has neither shift nor sub-key
  even_round : (r : ℕ) → r % 2 ≡ 0 → (s : Cube) → round k D R r s ≡ MC (S s)
  unfolding round SR SR⁻¹ add_subkey
  even_round r e s = rw (ne_eqb (r % 4) 1 (λ q. omega arith), ne_eqb (r % 4) 3 (λ q. omega arith), eq-eqb (r % 2) 0 e)

  even_round⁻¹ : (r : ℕ) → r % 2 ≡ 0 → (s : Cube) → round⁻¹ k D R r s ≡ S⁻¹ (MC⁻¹ s)
  unfolding round⁻¹ SR SR⁻¹ add_subkey
  even_round⁻¹ r e s = rw (ne_eqb (r % 4) 1 (λ q. omega arith), ne_eqb (r % 4) 3 (λ q. omega arith), eq-eqb (r % 2) 0 e)

  two_more : (i : ℕ) (s : Cube) → rounds k D R (2 * (i + 1)) s ≡ round k D R (2 * i + 1) (round k D R (2 * i) (rounds k D R (2 * i) s))
  unfolding rounds
  two_more i s =
      let e : 2 * (i + 1) ≡ suc (suc (2 * i)) = omega arith in
      let f : suc (2 * i) ≡ 2 * i + 1 = omega arith in
      ap (λ n. rounds k D R n s) e ∙ ap (λ n. round k D R n (round k D R (2 * i) (rounds k D R (2 * i) s))) f

  two_less : (i : ℕ) (s : Cube) → rounds⁻¹ k D R (2 * (i + 1)) s ≡ rounds⁻¹ k D R (2 * i) (round⁻¹ k D R (2 * i) (round⁻¹ k D R (2 * i + 1) s))
  unfolding rounds⁻¹
  two_less i s =
      let e : 2 * (i + 1) ≡ suc (suc (2 * i)) = omega arith in
      let f : suc (2 * i) ≡ 2 * i + 1 = omega arith in
      ap (λ n. rounds⁻¹ k D R n s) e ∙ ap (λ n. rounds⁻¹ k D R (2 * i) (round⁻¹ k D R (2 * i) (round⁻¹ k D R n s))) f

  -- the second round of super-round i, by its shift and its key
  pub record Second (i : ℕ) (there back : Cube → Cube) (key : Cube) : Type 0 where
    there_is : (s : Cube) → SR (2 * i + 1) s ≡ there s
    back_is : (s : Cube) → SR⁻¹ (2 * i + 1) s ≡ back s
    key_is : round_key k (2 * i + 1) ≡ key

  pub slice_shift : (i : ℕ) → i % 2 ≡ 0 → Second i SR_slice SR_slice⁻¹ (rotated k)
  unfolding SR SR⁻¹ round_key
  slice_shift i e =
      let one : (2 * i + 1) % 4 ≡ 1 = omega arith in record {
        there_is = λ s. rw (eq-eqb ((2 * i + 1) % 4) 1 one);
        back_is = λ s. rw (eq-eqb ((2 * i + 1) % 4) 1 one);
        key_is = rw (ne_eqb ((2 * i + 1) % 4) 3 (λ q. omega arith));
      }

  pub sheet_shift : (i : ℕ) → i % 2 ≡ 1 → Second i SR_sheet SR_sheet⁻¹ k
  unfolding SR SR⁻¹ round_key
  sheet_shift i e =
      let three : (2 * i + 1) % 4 ≡ 3 = omega arith in record {
        there_is = λ s. rw (ne_eqb ((2 * i + 1) % 4) 1 (λ q. omega arith), eq-eqb ((2 * i + 1) % 4) 3 three);
        back_is = λ s. rw (ne_eqb ((2 * i + 1) % 4) 1 (λ q. omega arith), eq-eqb ((2 * i + 1) % 4) 3 three);
        key_is = rw (eq-eqb ((2 * i + 1) % 4) 3 three);
      }

  module _ (i : ℕ) {there back : Cube → Cube} {key : Cube} (second : Second i there back key) where
    -- what it adds
    subkey : (s : Cube) → add_subkey k D R (2 * i + 1) s ≡ add key (add (constants (RC₀ D R i) (RC₁ D R i)) s)
    unfolding add_subkey
    subkey s =
        let half : (2 * i + 1) / 2 ≡ i = omega arith in
        rw (ne_eqb ((2 * i + 1) % 2) 0 (λ q. omega arith), second.key_is, half) (add-add _ _ s)

    forth : (s : Cube) → round k D R (2 * i + 1) s ≡ add key (add (constants (RC₀ D R i) (RC₁ D R i)) (back (MC (there (S s)))))
    unfolding round
    forth s = subkey _ ∙ ap (λ x. add key (add (constants (RC₀ D R i) (RC₁ D R i)) x)) (second.back_is _ ∙ ap (λ x. back (MC x)) (second.there_is (S s)))

    undone : (s : Cube) → round⁻¹ k D R (2 * i + 1) s ≡ S⁻¹ (back (MC⁻¹ (there (add key (add (constants (RC₀ D R i) (RC₁ D R i)) s)))))
    unfolding round⁻¹
    undone s = ap S⁻¹ (second.back_is _ ∙ ap (λ x. back (MC⁻¹ x)) (second.there_is _ ∙ ap there (subkey s)))

    pub more : (s : Cube) → super_round there back key (RC₀ D R i) (RC₁ D R i) (rounds k D R (2 * i) s) ≡ rounds k D R (2 * (i + 1)) s
    unfolding super_round
    more s = sym (two_more i s ∙ forth _
        ∙ ap (λ x. add key (add (constants (RC₀ D R i) (RC₁ D R i)) (back (MC (there (S x)))))) (even_round (2 * i) (omega arith) _))

    pub less : (s : Cube) → rounds⁻¹ k D R (2 * i) (super_round⁻¹ there back key (RC₀ D R i) (RC₁ D R i) s) ≡ rounds⁻¹ k D R (2 * (i + 1)) s
    unfolding super_round⁻¹
    less s = sym (two_less i s ∙ ap (rounds⁻¹ k D R (2 * i)) (even_round⁻¹ (2 * i) (omega arith) _ ∙ ap (λ x. S⁻¹ (MC⁻¹ x)) (undone s)))
