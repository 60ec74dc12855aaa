-- A text at the start of a buffer, if it fits.
use Rattle.std.specs.Prelude.{ℕ, ◌≤◌, refl, Bool, List, [], ◌++◌, take, leb, Option, None, Some, unwrap_or}
use native.Mathlib.Omega.{arith}
use Rattle.std.proofs.Math.Path.{◌≡◌, ap}
use Rattle.std.proofs.Common.{sym, ◌∙◌, length-append, length-take-le}
use Rattle.std.proofs.Math.Bool.{true, false}
use Rattle.std.proofs.Math.ListN.{length, drop}
use Rattle.std.proofs.Math.Seq.{take-append_seam}
use Rattle.floats.specs.Num.{choose}
use Rattle.emit.specs.Filling.{over}
use Rattle.print_result.specs.Printing.{Outcome, outcome, printed}

-- n bytes at the start of l: as io's Counts, so that a part `&l[..n]` is proved with nothing written
abbrev pub Part : ℕ → List ℕ → Type 0
Part n l = (n ≤ length l) × (n ≡ length (take n l))

-- t, if n bytes hold it
unfoldable pub fitting : ℕ → List ℕ → List ℕ
fitting n t = choose (leb (length t) n) t []

part : (n : ℕ) (l : List ℕ) → n ≤ length l → Part n l
part n l h = (h, sym (length-take-le n l h))

front : (t old : List ℕ) → Part (length t) (over t old) × ((take (length t) (over t old) ≡ t) × (over t old ≡ over t old))
front t old = (part (length t) (over t old) (omega (arith, length-append t (drop (length t) old))), (take-append_seam t (drop (length t) old), refl))

-- ---- what was printed, by whether it fits
module _ (t old : List ℕ) where
  bytes_by : (b : Bool) {k : ℕ} {l : List ℕ} → outcome (Some k) l ≡ choose b (outcome (Some (length t)) (t ++ drop (length t) old))
      (outcome None old) → Part k l × ((take k l ≡ choose b t []) × (l ≡ over (choose b t []) old))
  unfolding choose
  bytes_by true {k} {l} e =
      let a : Some k ≡ Some (length t) = ap (λ (o : Outcome). o.answer) e in
      let p : k ≡ length t = cc in
      let q : l ≡ t ++ drop (length t) old = ap (λ (o : Outcome). o.buffer) e in
      rw (p, q) (front t old)
  bytes_by false {k} e = absurd (let a : Some k ≡ None = ap (λ (o : Outcome). o.answer) e in let z : ◌≡◌ {A = ℕ} 0 1 = cc in omega arith)

  none_by : (b : Bool) {l : List ℕ} → outcome None l ≡ choose b (outcome (Some (length t)) (t ++ drop (length t) old))
      (outcome None old) → Part 0 l × ((take 0 l ≡ choose b t []) × (l ≡ over (choose b t []) old))
  unfolding choose
  none_by true e = absurd (let a : None ≡ Some (length t) = ap (λ (o : Outcome). o.answer) e in let z : ◌≡◌ {A = ℕ} 0 1 = cc in omega arith)
  none_by false e = ((omega arith, refl), (refl, ap (λ (o : Outcome). o.buffer) e))

-- r is what was answered, l the buffer after it
module _ (t old : List ℕ) {r : Option ℕ} {l : List ℕ} (e : outcome r l ≡ printed t old) where
  pub fits_bytes : {k : ℕ} → r ≡ Some k → Part k l × ((take k l ≡ fitting (length old) t) × (l ≡ over (fitting (length old) t) old))
  unfolding printed fitting
  fits_bytes q = bytes_by t old (leb (length t) (length old)) (ap (λ (x : Option ℕ). outcome x l) (sym q) ∙ e)

  pub fits_none : r ≡ None → Part 0 l × ((take 0 l ≡ fitting (length old) t) × (l ≡ over (fitting (length old) t) old))
  unfolding printed fitting
  fits_none q = none_by t old (leb (length t) (length old)) (ap (λ (x : Option ℕ). outcome x l) (sym q) ∙ e)

pub fits : (t old : List ℕ) (r : Option ℕ) {l : List ℕ} → outcome r l ≡ printed t old
    → Part (unwrap_or r 0) l × ((take (unwrap_or r 0) l ≡ fitting (length old) t) × (l ≡ over (fitting (length old) t) old))
unfolding printed fitting
fits t old (Some k) e = bytes_by t old (leb (length t) (length old)) e
fits t old None e = none_by t old (leb (length t) (length old)) e
