-- No Eq row is rewritten: both of its sides stay the same float, so it has no form that the coefficient step takes.
use Rattle.std.specs.Prelude.{ℕ, ◌≡◌, refl, List, [], ◌∷◌, ◌++◌, Float}
use Rattle.std.proofs.Common.{sym, ap, ◌∙◌, subst, arith}
use Rattle.std.proofs.Math.Bool.{and-not_self}
use Rattle.std.proofs.Math.Option.{Option, none, some}
use Rattle.floats.specs.Num.{choose, ◌⊖◌, is_finite}
use Rattle.definition.specs.Model.{Model, Binding, Row, as_written}
use Rattle.definition.specs.Work.{Work}
use Rattle.definition.specs.Folds.{fold_term}
use Rattle.definition.specs.Rewrites.{Form, le_form, ge_form, no_form, form_of}
use Rattle.definition.specs.Tighten.{set_coeff}
use Rattle.definition.specs.Emit.{Out, final}
use Rattle.rows_kept.specs.Statements.{All, no_one, each}
use Rattle.definition.specs.Choices.{true≢false, left}
use Rattle.rows_kept.specs.Kept.{Sided, le, ge, folded}
use Rattle.rows_kept.specs.RowSteps.{RowKept}
use Rattle.rows_kept.proofs.RowSteps.{changed_kept}
use Rattle.rows_kept.specs.Outs.{Goes, skipped, before, emptied, given, rewrites}
use Rattle.rows_kept.specs.Whole.{Emitted}
use Rattle.rows_kept.specs.AllRows.{EachRow, AllRows}
use Rattle.rows_kept.proofs.AllRows.{rows_held}
use Rattle.rows_kept.specs.EqRows.{HasForm, IfEq, NotEq, NotEqEntry}

-- a row whose sides agree has no form
pub no_form_lem : (row : Row) → row.lo ≡ row.hi → form_of row ≡ no_form
unfolding form_of
no_form_lem row e = rw e (left le_form _ (and-not_self (is_finite row.hi)) ∙ left ge_form no_form (and-not_self (is_finite row.hi)))

pub has_form : {f : Form} → Sided f → HasForm f
has_form le = tt
has_form ge = tt

pub bound_not : {o : Option Binding} {b : Binding} → o ≡ some b → o ≡ none → ⊥
bound_not p q = let z : ◌≡◌ {A = ℕ} 0 1 = cc in omega arith

pub shifted : (s : Float) {x y : Float} → x ≡ y → x ⊖ s ≡ y ⊖ s
shifted s e = ap (λ (x : Float). x ⊖ s) e

pub steps : (M : Model) (r : ℕ) → RowKept M r (NotEq M r) (IfEq M r)
unfolding as_written fold_term set_coeff choose
steps M r =
    record {
      folding =
          record {
            as_written_lem = λ z. rw z (record { sides = refl; unbound = refl; untouched = refl });
            removes = λ row i h q z. record { sides = (q z).sides; unbound = (q z).unbound; untouched = (q z).untouched };
            folds = λ row i w h q z. record { sides = shifted _ (q z).sides; unbound = (q z).unbound; untouched = (q z).untouched };
            relaxes = λ row b c l h e q z. absurd (bound_not e (q z).unbound);
          };
      rewriting = record { coeffs = λ g row i v a c q z. absurd (g z); rebinds = λ g row b l h q z. absurd (g z); touches = λ g row q z. absurd (g z) };
      guards = λ row f e s q z. subst HasForm (sym e ∙ no_form_lem row (q z).sides) (has_form s);
    }

pub eq_rows : (M : Model) → EachRow M (NotEq M) (IfEq M)
eq_rows M =
    record {
      steps = steps M;
      leaves = λ r row q z. record { sides = (q z).sides; unbound = (q z).unbound; untouched = (q z).untouched };
      past = λ r z. record { sides = refl; unbound = refl; untouched = refl };
    }

-- ---- what is out: a rewritten entry is no Eq row's, and its right side is finite
pub all_last : {A : Type 0} {P : A → Type 0} {xs : List A} {x : A} → All P xs → P x → All P (xs ++ (x ∷ []))
all_last no_one p = each p no_one
all_last (each q h) p = each q (all_last h p)

pub goes_eq : (M : Model) {r : ℕ} {w v : Work} {o x : Out} → Goes M r w o (final v x) → AllRows (IfEq M) w.rows → All (NotEqEntry M) o.emitted → All (NotEqEntry M) x.emitted
goes_eq M (skipped t) p h = h
goes_eq M (before t a) p h = h
goes_eq M (emptied t a) p h = h
goes_eq M (given t a) p h = all_last h (λ m. true≢false m refl)
goes_eq M {r} {w} (rewrites t a c f) p h = all_last h (λ m. (λ z. true≢false c (changed_kept M (steps M r) (folded w) (p r) z).untouched, f))

pub not_eq : (M : Model) → Emitted M (λ w. AllRows (IfEq M) w.rows) (λ r w o. All (NotEqEntry M) o.emitted)
not_eq M = record { held = rows_held M (eq_rows M); none = λ w p. no_one; goes = λ r w v o x p q g h. goes_eq M g p h }
