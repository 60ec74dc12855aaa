-- THE PROGRAM'S SPACE IS ENOUGH: a file that is read has at most 128 variables, 128 rows and 512 terms, and the slices that the program lends to presolve have room for
-- that. So no file is answered by refusal 10; nor by 18, since a row whose indices rise has at most 128 terms.
use Rattle.std.specs.Prelude.{ℕ, ◌+◌, ◌-◌, ◌*◌, ◌≤◌, ◌≡◌, refl, Bool, true, false, not, List, eqb, length, get_or}
use Rattle.std.proofs.Common.{arith, ap, sym, ◌∙◌, le-ltb, eqb-true}
use Rattle.std.proofs.Math.Option.{Option, none, some}
use Rattle.std.proofs.lemmas.Bool.{not-false}
use Rattle.floats.specs.Num.{choose}
use Rattle.definition.specs.declared.Counts.{Counts}
use Rattle.definition.specs.Model.{Answer, infeasible, done, Reduced}
use Rattle.definition.specs.Presolve.{presolve}
use Rattle.definition.specs.Refusal.{floats_needed, numbers_needed, adjacency_needed, some_below, too_short}
use Rattle.definition.specs.Refusal as call
use Rattle.refuse.specs.Laws.{none_below}
use Rattle.model_file.specs.Format.{Lists, Decoded, refusal, file, decode}
use Rattle.print_result.specs.Text.{ascii, digit, tens, decimal, number, answer_line, refused_line, answer_text}
use Rattle.presolve_file.specs.Whole.{kind_of, reduced_text, infeasible_text, outcome_text, space, model_text, model_in, decoded_text, file_text}
use Rattle.presolve_file.specs.Small.{Small, small}
use Rattle.presolve_file.specs.Refusals.{reader_numbers, small_numbers}

-- ---- the space
small_fits : (f : Lists) → Small f → too_short (model_in f) space ≡ false
unfolding too_short floats_needed numbers_needed adjacency_needed
small_fits f s =
    let vars = length f.objective in
    let rows = length f.rhs in
    let terms = length f.index in
    let r : rows ≤ 128 = omega (arith, s.rhs, s.rows) in
    rw (
      le-ltb space.lower vars s.vars,
      le-ltb space.kept rows r,
      le-ltb space.term_index terms s.terms,
      le-ltb space.floats (4 * vars + 8 * rows + terms) (omega (arith, s.vars, r, s.terms)),
      le-ltb space.numbers (6 + 10 * rows + 3 * vars + 2 * terms) (omega (arith, s.vars, r, s.terms)),
      le-ltb space.adjacency (vars + 1 + terms) (omega (arith, s.vars, s.terms)),
    )

pub space_enough : (s : List ℕ) (f : Lists) → decode s ≡ file f → too_short (model_in f) space ≡ false
space_enough s f e = small_fits f (small s f e)

-- ---- the text says which refusal it is: a number of one or two digits, after eight bytes
told : List ℕ → ℕ
told l = (length l - 10) * 10 * (get_or l 8 0 - 48) + (get_or l (length l - 2) 0 - 48)

misread : ℕ → Bool
misread n = not (eqb (told (refused_line n)) n)

none_misread : some_below misread 19 ≡ false
unfolding misread told refused_line number decimal tens digit ascii some_below choose
none_misread = refl

read_back : (n : ℕ) → n ≤ 18 → told (refused_line n) ≡ n
unfolding misread
read_back n h = eqb-true _ _ (not-false _ (none_below misread 19 n none_misread (omega arith)))

same_line : (n k : ℕ) → n ≤ 18 → k ≤ 18 → refused_line n ≡ refused_line k → n ≡ k
same_line n k h l e = sym (read_back n h) ∙ ap told e ∙ read_back k l

-- an answer's text begins otherwise: with an a
begins : List ℕ → ℕ
begins l = get_or l 0 0

answer_begins : (R : Reduced) (b : Bool) → R.flag ≡ b → begins (reduced_text R) ≡ 97
unfolding begins reduced_text kind_of answer_text answer_line ascii
answer_begins R true e = rw e
answer_begins R false e = rw e

infeasible_begins : (k : Counts) → begins (infeasible_text k) ≡ 97
unfolding begins infeasible_text answer_line ascii
infeasible_begins k = refl

refusal_begins : (n : ℕ) → begins (refused_line n) ≡ 114
unfolding begins refused_line ascii
refusal_begins n = refl

-- ---- refusals that no file has: 10 and 18
module _ (k : ℕ) (above : 10 ≤ k) (most : k ≤ 18) (other : 11 ≤ k → k ≤ 14 → ⊥) where
  outcome_other : (o : Option ℕ) (a : Answer) → ((n : ℕ) → o ≡ some n → n ≤ 9) → outcome_text o a ≡ refused_line k → ⊥
  unfolding outcome_text
  outcome_other (some n) a h e = let l = h n refl in omega (arith, above, same_line n k (omega (arith, l)) most e)
  outcome_other none (infeasible c) h e = omega (arith, sym (infeasible_begins c) ∙ ap begins e ∙ refusal_begins k)
  outcome_other none (done R) h e = omega (arith, sym (answer_begins R R.flag refl) ∙ ap begins e ∙ refusal_begins k)

  decoded_other : (s : List ℕ) (d : Decoded) → decode s ≡ d → decoded_text d ≡ refused_line k → ⊥
  unfolding decoded_text model_text
  decoded_other s (refusal n) p e = let l = reader_numbers s p in let i = same_line n k (omega (arith, l)) most e in other (omega (arith, l, i)) (omega (arith, l, i))
  decoded_other s (file f) p e =
      outcome_other (call.refusal (model_in f) space) (presolve (model_in f))
      (λ n q. small_numbers (model_in f) space (omega (arith, (small s f p).vars)) (space_enough s f p) q) e

-- whatever bytes a file has, it is not answered by refusal 10
pub never_short : (s : List ℕ) → file_text s ≡ refused_line 10 → ⊥
unfolding file_text
never_short s e = decoded_other 10 (omega arith) (omega arith) (λ a b. omega (arith, a)) s (decode s) refl e

-- nor by refusal 18
pub never_long : (s : List ℕ) → file_text s ≡ refused_line 18 → ⊥
unfolding file_text
never_long s e = decoded_other 18 (omega arith) (omega arith) (λ a b. omega (arith, b)) s (decode s) refl e
