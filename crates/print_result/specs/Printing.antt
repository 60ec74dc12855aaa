-- What printing a text into a lent buffer gives: how many bytes, with the text at the buffer's front and the rest as it was; or, where the buffer is too short,
-- that there is no room, and the buffer as it was.
use Rattle.std.specs.Prelude.{ℕ, ◌+◌, ◌≤◌, ◌<◌, min, ◌≡◌, List, ◌++◌, leb, Option, Some, None}
use Rattle.std.proofs.Common.{◌∙◌, arith}
use Rattle.std.proofs.Math.Nat.{zero-add}
use borrow.Author.Tests.{le-leb, lt-leb}
use Rattle.std.proofs.Math.ListN.{length, drop}
use Rattle.std.proofs.Math.Seq.{sets-eq}
use Rattle.floats.specs.Num.{choose}
use Rattle.print_result.specs.Sink.{top, BytesCounted, BytesFilled}

pub record Outcome : Type 0 where
  pub answer : Option ℕ
  pub buffer : List ℕ

abbrev pub outcome : Option ℕ → List ℕ → Outcome
outcome r l = record { answer = r; buffer = l }

unfoldable pub printed : List ℕ → List ℕ → Outcome
printed t l = choose (leb (length t) (length l)) (outcome (Some (length t)) (t ++ drop (length t) l)) (outcome None l)

-- ---- a first run that only counts says whether there is room
counted : {t : List ℕ} {n : ℕ} → BytesCounted t 0 n → n ≡ min (length t) top
counted c = let p = c.is (omega arith) in omega (arith, p)

module _ {t : List ℕ} {l : List ℕ} {n : ℕ} (c : BytesCounted t 0 n) where
  pub no_room : length l < n → outcome None l ≡ printed t l
  unfolding printed choose
  no_room h = rw (lt-leb (length t) (length l) (omega (arith, counted c)))

  pub written : {l' : List ℕ} {m : ℕ} → length l < top → n ≤ length l → BytesFilled t l 0 l' m → outcome (Some m) l' ≡ printed t l
  unfolding printed choose
  written {l'} {m} s h f =
      let r : length t ≤ length l = omega (arith, counted c) in
      let z : 0 + length t ≡ length t = zero-add (length t) in
      let p : m ≡ length t = f.place (rw z r) ∙ z in
      let q : l' ≡ t ++ drop (length t) l = f.bytes (rw z r) ∙ sets-eq t l 0 (rw z r) ∙ rw z in
      rw (p, q, le-leb (length t) (length l) r)
