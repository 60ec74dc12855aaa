-- THE LINE of a file: `refused` and its number where the reader refuses it; else whether its model is 01's farm model with a whole objective, or which
-- condition fails first, and where.
use Rattle.std.specs.Prelude.{ℕ, ◌≡◌, refl, List, [], Float, Result, Ok, Err, Some, None}
use Rattle.std.proofs.Common.{sym, ap, ◌∙◌}
use Rattle.std.proofs.Math.Option as definition
use Rattle.definition.specs.Model.{Model}
use Rattle.definition.specs.Of.{model_of}
use Rattle.whole_numbers.specs.Fault as test
use Rattle.whole_numbers.specs.Of.{numbers_of, numbers_is, number}
use Rattle.whole_numbers.specs.declared.Fault.{Fault}
use Rattle.model_file.specs.Format.{Decoded, refusal, file, decode}
use Rattle.print_result.specs.declared.Off.{Off}
use Rattle.print_result.specs.Text as text
use Rattle.print_result.specs.Text.{refused_line, whole_line, off_line}
use Rattle.presolve_file.specs.Whole.{told}
use Rattle.presolve_file.specs.Front.{Is, is_file}

unfoldable pub fault_line : definition.Option (ℕ × ℕ) → List ℕ
fault_line definition.none = whole_line
fault_line (definition.some f) = off_line f.0 f.1

unfoldable pub model_line : Model → List ℕ
model_line M = fault_line (test.told M)

unfoldable pub decoded_numbers : Decoded → List ℕ
decoded_numbers d = told model_line d

unfoldable pub numbers_text : List ℕ → List ℕ
numbers_text s = decoded_numbers (decode s)

-- which is what presolve_facts writes: it reports by `model_line`
pub report_numbers : (s : List ℕ) → told model_line (decode s) ≡ numbers_text s
unfolding numbers_text decoded_numbers
report_numbers s = refl

-- 01's conditions look at neither the objective nor the comparisons; what the code answers, which asks the objective last, looks at no comparison
module _ (obj lower upper : List Float) (domain starts index : List ℕ) (coeff : List Float) (cmp : List ℕ) (rhs : List Float) (mode : ℕ) (feas int_tol : Float) where
  pub fault-of : test.fault (numbers_of lower upper domain starts index coeff rhs mode feas int_tol) ≡ test.fault (model_of obj lower upper domain starts index coeff cmp rhs mode feas int_tol)
  unfolding test.fault test.conditions
  fault-of = refl

  pub told-of : test.told (model_of obj lower upper domain starts index coeff [] rhs mode feas int_tol) ≡ test.told (model_of obj lower upper domain starts index coeff cmp rhs mode feas int_tol)
  unfolding test.told test.conditions
  told-of = refl

-- ---- what the code answers, and what it prints of it
module _ {z : Result Unit Fault} {o : definition.Option (ℕ × ℕ)} (e : numbers_is z ≡ o) where
  pub whole_line_lem : {u : Unit} → z ≡ Ok u → text.numbers_text None ≡ fault_line o
  unfolding fault_line text.numbers_text
  whole_line_lem q = ap fault_line (sym (ap numbers_is q) ∙ e)

  pub off_line_lem : {f : Fault} {k : Off} → z ≡ Err f → k.number ≡ number f.condition → k.place ≡ f.place → text.numbers_text (Some k) ≡ fault_line o
  unfolding fault_line text.numbers_text
  off_line_lem {f} q p i = rw (p, i) (ap fault_line (sym (ap numbers_is q) ∙ e))

pub text_refused : (s : List ℕ) {n : ℕ} → decode s ≡ refusal n → refused_line n ≡ numbers_text s
unfolding numbers_text decoded_numbers
text_refused s e = sym (ap decoded_numbers e)

by : {M : Model} (d : Decoded) → Is M d → fault_line (test.told M) ≡ decoded_numbers d
unfolding decoded_numbers model_line
by (file f) (is_file e) = ap (λ (M : Model). fault_line (test.told M)) e
by {M = M} (refusal _) x'' = elim x'' [ ]

pub text_read : (s : List ℕ) {M : Model} → Is M (decode s) → fault_line (test.told M) ≡ numbers_text s
unfolding numbers_text
text_read s i = by (decode s) i
