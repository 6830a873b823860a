-- Lists made from a function of the index.
use Rattle.std.proofs.Common.{◌≡◌, ℕ, ◌<◌, List, length, map, get_or, sym, ◌∙◌, arith}
use Rattle.std.proofs.lemmas.List.{ext_get_or, get_or-map, length-map}
use Rattle.std.proofs.lemmas.List.FromFn.{length-map-range_with_len, get_or-map-range_with_len}
use Rattle.octets.specs.Lists.{table, at}

pub length-table : (n : ℕ) (f : ℕ → ℕ) → length (table n f) ≡ n
unfolding table
length-table n f = length-map-range_with_len f 0 n

pub at_table : (n : ℕ) (f : ℕ → ℕ) (i : ℕ) → i < n → at (table n f) i ≡ f i
unfolding table
at_table n f i h = get_or-map-range_with_len f 0 n i i 0 h (omega arith)

pub same_table : (n : ℕ) (f g : ℕ → ℕ) → ((i : ℕ) → i < n → f i ≡ g i) → table n f ≡ table n g
same_table n f g e =
    ext_get_or 0 (table n f) (table n g) (length-table n f ∙ sym (length-table n g))
    (λ i h. let l : i < n = omega (arith, length-table n f) in at_table n f i l ∙ e i l ∙ sym (at_table n g i l))

-- a list with the right elements is the table
pub is_table : (n : ℕ) (f : ℕ → ℕ) (s : List ℕ) → length s ≡ n → ((i : ℕ) → i < n → at s i ≡ f i) → s ≡ table n f
is_table n f s l e =
    ext_get_or 0 s (table n f) (l ∙ sym (length-table n f)) (λ i h. let m : i < n = omega (arith, l) in e i m ∙ sym (at_table n f i m))

-- a list of records, one field of which is the table
pub is_table_of : {A : Type 0} (n : ℕ) (f : ℕ → ℕ) (p : A → ℕ) (s : List A) (d : A) → length s ≡ n → ((i : ℕ) → i < n → p (get_or s i d) ≡ f i) → map p s ≡ table n f
is_table_of n f p s d l e =
    is_table n f (map p s) (length-map s p ∙ l) (λ i h. let m : i < length s = omega (arith, l) in get_or-map p s i d 0 m ∙ e i h)
