-- Words made of masked and shifted parts of a word: which bit stands where is settled by a test at each of 32 places.
use Rattle.std.proofs.Common.{◌≡◌, ℕ, ◌+◌, ◌-◌, ◌*◌, ◌/◌, ◌%◌, ◌^◌, ◌<◌, ◌≤◌, ◌⊎◌, arith, Bool, true, false, cond, T, eqb, leb, sym, ap, ◌∙◌, subst, ap₂, inl, inr, lit<, eqb→eq}
use lib.Bits.{bit_and, bit_or, and_zero_r, or_lt}
use Rattle.std.proofs.lemmas.Nat.{and_mask}
use Rattle.std.proofs.lemmas.Bool.{cases_Bool, leb-true, leb-false}
use Rattle.saturnin.specs.Bits.{bit}
use Rattle.saturnin_words.specs.Words.{in_word}
use Rattle.saturnin.proofs.Bits.{both, both_left, both_right, below, at_below, same_on_bits, bit-bit_and, bit-bit_or, bit_shr, bit_shl, bit_shl_low, bit_mod, bit_lt, and_one}

pub data Sel : Type 0 where
  left : ℕ → ℕ → Sel
  right : ℕ → ℕ → Sel
  or : Sel → Sel → Sel

abbrev pub word : Sel → ℕ → ℕ
word (left m k) x = bit_and x m * 2 ^ k % 2 ^ 32
word (right m k) x = bit_and x m / 2 ^ k
word (or e f) x = bit_or (word e x) (word f x)

-- 1 where bit p comes from some bit of x
abbrev pub picks : Sel → ℕ → ℕ
picks (left m k) p = cond (leb k p) (bit m (p - k)) 0
picks (right m k) p = bit m (k + p)
picks (or e f) p = bit_or (picks e p) (picks f p)

-- bit p comes from no bit of x but t
abbrev pub only : Sel → ℕ → ℕ → Bool
only (left m k) p t = cond (leb k p) (cond (eqb (bit m (p - k)) 0) true (eqb (p - k) t)) true
only (right m k) p t = cond (eqb (bit m (k + p)) 0) true (eqb (k + p) t)
only (or e f) p t = both (only e p t) (only f p t)

pub picks_lt : (e : Sel) (p : ℕ) → picks e p < 2
picks_lt (left m k) p = elim (leb k p) as (λ v. cond v (bit m (p - k)) 0 < 2) [ true ↦ bit_lt m (p - k) | false ↦ lit< tt ]
picks_lt (right m k) p = bit_lt m (k + p)
picks_lt (or e f) p =
    or_lt 1 (picks e p) (picks f p) (picks_lt e p) (picks_lt f p)

part : (x s t m : ℕ) → T (cond (eqb m 0) true (eqb s t)) → bit_and (bit x s) m ≡ bit_and (bit x t) m
part x s t m h =
    elim (cases_Bool (eqb m 0)) [
      | inl e ↦
          let z : m ≡ 0 = eqb→eq m 0 (subst T (sym e) tt) in
          ap (λ v. bit_and (bit x s) v) z ∙ and_zero_r (bit x s) ∙ sym (and_zero_r (bit x t)) ∙ ap (λ v. bit_and (bit x t) v) (sym z)
      | inr e ↦ ap (λ v. bit_and (bit x v) m) (eqb→eq s t (subst (λ (b : Bool). T (cond b true (eqb s t))) e h))
    ]

spread : (v a b : ℕ) → v < 2 → a < 2 → b < 2 → bit_or (bit_and v a) (bit_and v b) ≡ bit_and v (bit_or a b)
spread v a b hv ha hb =
    same_on_bits (λ v a b w. bit_or (bit_and v a) (bit_and v b)) (λ v a b w. bit_and v (bit_or a b)) tt v a b 0 hv ha hb (lit< tt)

pub picked : (e : Sel) (x p t : ℕ) → p < 32 → T (only e p t) → bit (word e x) p ≡ bit_and (bit x t) (picks e p)
picked (left m k) x p t l h =
    bit_mod (bit_and x m * 2 ^ k) 32 p l ∙
    elim (cases_Bool (leb k p)) [
      | inl e ↦
          bit_shl (bit_and x m) k p (leb-true k p e) ∙ bit-bit_and x m (p - k) ∙
          part x (p - k) t (bit m (p - k)) (subst (λ (b : Bool). T (cond b (cond (eqb (bit m (p - k)) 0) true (eqb (p - k) t)) true)) e h) ∙
          ap (λ (b : Bool). bit_and (bit x t) (cond b (bit m (p - k)) 0)) (sym e)
      | inr e ↦
          bit_shl_low (bit_and x m) k p (leb-false k p e) ∙ sym (and_zero_r (bit x t)) ∙
          ap (λ (b : Bool). bit_and (bit x t) (cond b (bit m (p - k)) 0)) (sym e)
    ]
picked (right m k) x p t l h = bit_shr (bit_and x m) k p ∙ bit-bit_and x m (k + p) ∙ part x (k + p) t (bit m (k + p)) h
picked (or e f) x p t l h =
    bit-bit_or (word e x) (word f x) p ∙
    ap₂ bit_or (picked e x p t l (both_left (only e p t) (only f p t) h)) (picked f x p t l (both_right (only e p t) (only f p t) h)) ∙
    spread (bit x t) (picks e p) (picks f p) (bit_lt x t) (picks_lt e p) (picks_lt f p)

abbrev pub check : Sel → (ℕ → ℕ) → ℕ → Bool
check e source p = both (only e p (source p)) (eqb (picks e p) 1)

pub moves : (e : Sel) (source : ℕ → ℕ) → T (below (check e source) 32) → (x p : ℕ) → p < 32 → bit (word e x) p ≡ bit x (source p)
moves e source t x p h =
    let c : T (check e source p) = at_below (check e source) 32 t p h in
    picked e x p (source p) h (both_left (only e p (source p)) (eqb (picks e p) 1) c) ∙
    ap (λ v. bit_and (bit x (source p)) v) (eqb→eq (picks e p) 1 (both_right (only e p (source p)) (eqb (picks e p) 1) c)) ∙
    and_one (bit x (source p)) (bit_lt x (source p))

-- a half turn of a word
pub swapped : (x p : ℕ) → x < 2 ^ 32 → p < 32 → bit (bit_or (x * 2 ^ 16 % 2 ^ 32) (x / 2 ^ 16)) p ≡ bit x ((p + 16) % 32)
unfolding bit
swapped x p l h =
    let whole : bit_and x 0xffffffff ≡ x = and_mask x 32 ∙ omega arith in
    subst (λ (v : ℕ). bit (bit_or (v * 2 ^ 16 % 2 ^ 32) (v / 2 ^ 16)) p ≡ bit x ((p + 16) % 32)) whole
    (moves (or (left 0xffffffff 16) (right 0xffffffff 16)) (λ p. (p + 16) % 32) tt x p h)

-- the word that `turned` makes
abbrev group : ℕ → ℕ
group W = 1 * 2 ^ W % 2 ^ 32 - 1

abbrev kept : (W places : ℕ) → ℕ
kept W places = 0xffff / group W * (group W / 2 ^ places)

abbrev pub turn : (W L H : ℕ) → Sel
turn W L H =
    or (or (or (left (kept W L) L) (right (0xffff - kept W L) (W - L))) (left (kept W H * 2 ^ 16 % 2 ^ 32) H))
    (right (0xffff0000 - kept W H * 2 ^ 16 % 2 ^ 32) (W - H))

abbrev all_turn : ℕ → Bool
all_turn W = below (λ l. below (λ h. below (check (turn W l h) (in_word W l h)) 32) (W + 1)) (W + 1)

pub turns : (W L H : ℕ) → (W ≡ 4) ⊎ (W ≡ 16) → L ≤ W → H ≤ W → (x p : ℕ) → p < 32 → bit (word (turn W L H) x) p ≡ bit x (in_word W L H p)
unfolding bit
turns W L H w l h x p k = elim w [ inl e ↦ at_width 4 tt e | inr e ↦ at_width 16 tt e ]
  where
    at_width : (V : ℕ) → T (all_turn V) → W ≡ V → bit (word (turn W L H) x) p ≡ bit x (in_word W L H p)
    at_width V t e =
        subst (λ (W : ℕ). L ≤ W → H ≤ W → bit (word (turn W L H) x) p ≡ bit x (in_word W L H p)) (sym e)
        (λ l h.
        moves (turn V L H) (in_word V L H)
        (at_below (λ h. below (check (turn V L h) (in_word V L h)) 32) (V + 1)
        (at_below (λ l. below (λ h. below (check (turn V l h) (in_word V l h)) 32) (V + 1)) (V + 1) t L (omega arith)) H (omega arith)) x p k)
        l h
