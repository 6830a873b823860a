-- Over a cipher that gives blocks, chain values and tags are blocks, and ciphertexts are bytes.
use Rattle.std.proofs.Common.{◌≡◌, ℕ, zero, suc, ◌+◌, ◌*◌, ◌/◌, ◌%◌, ◌≤◌, List, length, get_or, drop, sym, ◌∙◌, inl, inr, arith, lit<, lit≤}
use lib.Bits.{xor_lt}
use Rattle.std.proofs.lemmas.Bool.{cases_lt}
use Rattle.std.proofs.lemmas.List.{length-take, length-drop, get_or-drop, get_or_past}
use Rattle.cipher.specs.Meaning.{Bytes, BlockFunction, GivesBlocks}
use Rattle.modes.specs.Bytes.{xor, padded, full_blocks, block_at, tail_of}
use Rattle.modes.specs.Chains.{link, links, chain}
use Rattle.modes.specs.Counters.{counter_block}
use Rattle.modes.specs.Cascade.{keystream, masked, ctr, tag}
use Rattle.modes.proofs.Texts.{length-xor, get_or-xor, length-padded, padded-bytes}
use Rattle.modes.proofs.Streams.{length-ctr, get_or-ctr}
use Rattle.octets.specs.Octets.{Octets}
use Rattle.octets.proofs.Numbers.{take-bytes, big_endian_bytes, length-big_endian}

pub drop-bytes : (xs : List ℕ) (n : ℕ) → Octets xs → Octets (drop n xs)
drop-bytes xs n b i = omega (arith, get_or-drop n xs i 0, b (n + i))

xor_bytes : (a b : List ℕ) → Bytes 32 a → Bytes 32 b → Bytes 32 (xor a b)
xor_bytes a b p q =
    let l : length (xor a b) ≡ 32 = length-xor a b (p.0 ∙ sym q.0) ∙ p.0 in (
      l,
      λ i. elim (cases_lt i 32) [
        | inl h ↦ rw (get_or-xor a b i (omega (arith, p.0)) (omega (arith, q.0))) (xor_lt 8 (get_or a i 0) (get_or b i 0) (p.1 i) (q.1 i))
        | inr h ↦ rw (get_or_past (xor a b) i 0 (omega (arith, l))) (lit< tt)
      ],
    )

padded_block : (m : List ℕ) → length m ≤ 31 → Octets m → Bytes 32 (padded 32 m)
padded_block m h b = (length-padded 32 m (omega arith), padded-bytes 32 m b)

pub counter_bytes : (nonce : List ℕ) (c : ℕ) → length nonce ≤ 20 → Octets nonce → Bytes 32 (counter_block nonce c)
unfolding counter_block
counter_bytes nonce c h b = xor_bytes (padded 32 nonce) _ (padded_block nonce (omega arith) b) (length-big_endian 32 c, big_endian_bytes 32 c)

module _ (f : BlockFunction) (gives : GivesBlocks f) where
  run_bytes : (D R : ℕ) (t a : List ℕ) → D ≤ 15 → 10 ≤ R → R ≤ 31 → Bytes 32 t → Bytes 32 a → Bytes 32 (f t D R a)
  run_bytes D R t a d e g p q = gives t D R a (record { key_whole = p; separator = d; enough = e; not_too_many = g; block_whole = q })

  module _ (D R : ℕ) (d : D ≤ 15) (e : 10 ≤ R) (g : R ≤ 31) where
    pub link-bytes : (t a : List ℕ) → Bytes 32 t → Bytes 32 a → Bytes 32 (link f D R t a)
    unfolding link
    link-bytes t a p q = xor_bytes a _ q (run_bytes D R t a d e g p q)

    links-bytes : (t bytes : List ℕ) (n : ℕ) → Bytes 32 t → Octets bytes → n ≤ full_blocks bytes → Bytes 32 (links f D R t bytes n)
    unfolding links block_at
    links-bytes t bytes zero p b h = p
    links-bytes t bytes (suc n) p b h =
        link-bytes _ _ (links-bytes t bytes n p b (omega arith)) (simp (length-take, length-drop) (omega arith), take-bytes (drop (32 * n) bytes) 32 (drop-bytes bytes (32 * n) b))

  pub chain-bytes : (D last R : ℕ) → D ≤ 15 → last ≤ 15 → 10 ≤ R → R ≤ 31 → (t bytes : List ℕ) → Bytes 32 t → Octets bytes → Bytes 32 (chain f D last R t bytes)
  unfolding tail_of
  chain-bytes D last R d l e g t bytes p b =
      link-bytes last R l e g _ _ (links-bytes D R d e g t bytes (full_blocks bytes) p b (omega arith))
      (padded_block (tail_of bytes) (simp length-drop (omega arith)) (drop-bytes bytes (32 * full_blocks bytes) b))

  module _ (key nonce : List ℕ) (kb : Bytes 32 key) (nl : length nonce ≤ 20) (nb : Octets nonce) where
    pub tag-bytes : (associated text : List ℕ) → Octets associated → Octets text → Bytes 32 (tag f key nonce associated text)
    unfolding tag
    tag-bytes associated text ab tb =
        chain-bytes 4 5 10 (lit≤ tt) (lit≤ tt) (lit≤ tt) (lit≤ tt) _ text
        (chain-bytes 2 3 10 (lit≤ tt) (lit≤ tt) (lit≤ tt) (lit≤ tt) _ associated (link-bytes 2 10 (lit≤ tt) (lit≤ tt) (lit≤ tt) key _ kb (counter_bytes nonce 0 nl nb)) ab) tb

    pub ctr-bytes : (text : List ℕ) → Octets text → Octets (ctr f key nonce text)
    unfolding masked keystream
    ctr-bytes text b i = elim (cases_lt i (length text)) [
      | inl h ↦ rw (get_or-ctr f key nonce text i h) (xor_lt 8 (get_or text i 0) _ (b i) ((run_bytes 1 10 key _ (lit≤ tt) (lit≤ tt) (lit≤ tt) kb (counter_bytes nonce (i / 32 + 1) nl nb)).1 (i % 32)))
      | inr h ↦ rw (get_or_past (ctr f key nonce text) i 0 (omega (arith, length-ctr f key nonce text))) (lit< tt)
    ]
