-- Trays are shelves.
use Rattle.std.proofs.Common.{◌≡◌, ℕ, ◌+◌, ◌*◌, ◌<◌, ◌≤◌, true, ltb, List, length, Ok, sym, ap, subst, inl, inr, arith}
use Rattle.std.proofs.lemmas.List.{length-take, length-drop}
use Rattle.std.proofs.lemmas.Bool.{ltb-true, cases_lt}
use Rattle.faults.specs.Tables.{Not, Clear}
use Rattle.octets.specs.Octets.{part, written}
use Rattle.octets.proofs.Writes.{length-written, drop-written, part-written, part_below, part_above}
use Rattle.shelf.specs.Meaning.{Lawful, Puts, put_table}
use Rattle.tray.specs.Trays.{tray, tray_places, TrayStores}
use Rattle.shelf.proofs.Tables.{put_allowed, put_done}

pub tray_lawful : (memory : List ℕ) → Lawful (tray memory)
tray_lawful memory = record {
  few = omega arith;
  inside = λ p o. ltb-true p (tray_places (length memory)) o;
  whole = λ p h. simp (length-take, length-drop) (omega arith);
}

-- a put that was allowed, and has written the bytes at their place
module _ (memory bytes memory' : List ℕ) (p : ℕ) (allowed : Clear (put_table (tray memory) p (length bytes))) (e : memory' ≡ written (1024 * p) bytes memory) where
  inside : p < tray_places (length memory)
  inside = (put_allowed (tray memory) p (length bytes) allowed).1

  size : length bytes ≡ 1024
  size = (put_allowed (tray memory) p (length bytes) allowed).0

  fits : 1024 * p + length bytes ≤ length memory
  fits = omega (arith, inside, size)

  long : length memory' ≡ length memory
  long = rw e (length-written (1024 * p) bytes memory fits)

  others : (q : ℕ) → Not (q ≡ p) → part (1024 * q) 1024 memory' ≡ part (1024 * q) 1024 memory
  others q ne =
      rw e (elim (cases_lt q p) [ inl l ↦ part_below (1024 * p) bytes memory fits (1024 * q) 1024 (omega arith) | inr l ↦ part_above (1024 * p) bytes memory fits (1024 * q) 1024 (omega (arith, size)) ])

  pub tray_puts : Puts (tray memory) p bytes (Ok tt) (tray memory')
  tray_puts = put_done (tray memory) p bytes (tray memory') allowed (record {
    count = ap tray_places long;
    here = rw e (part-written (1024 * p) bytes memory fits 1024 (sym size));
    elsewhere = λ q l. others q;
    opens_none = λ q o. subst (λ k. ltb q (tray_places k) ≡ true) long o;
  })

  pub tray_stores : TrayStores memory p bytes memory'
  tray_stores = record {
    all = e;
    spare = rw e (drop-written (1024 * p) bytes memory fits (1024 * tray_places (length memory)) (omega (arith, inside, size)));
  }
