-- The code's forms and rewrites as the definition's, and the tests of a term and of a row by numbers alone.
use Rattle.std.specs.Prelude.{◌≡◌, ℕ, Bool, not, ◌&&◌, ◌||◌, length, ◌==◌, nat_lt, Float, Option, None, Some}
use Rattle.std.proofs.Math.Path.{refl}
use Rattle.std.specs.Float.Ieee.{eq}
use Rattle.floats.specs.Num.{choose, 0f, 1f}
use Rattle.tolerances.specs.Tol.{Term, at}
use Rattle.definition.specs.declared.Activity.{Activity}
use Rattle.definition.specs.Model.{Model, is_int_domain, Row}
use Rattle.definition.specs.Work.{Work}
use Rattle.definition.specs.Rewrites as defs
use Rattle.definition.specs.Tighten.{binary, rewrite_of, spared}
use Rattle.formulas.specs.declared.Limits.{Limits}
use Rattle.formulas.specs.declared.Form.{Form}
use Rattle.formulas.specs.declared.Form.TheVariants.{Le, Ge}
use Rattle.formulas.specs.declared.Rebound.{Rebound}
use Rattle.formulas.specs.declared.Rewrite.{Rewrite}
use Rattle.formulas.specs.Bare.{bare, Has, vacuous_of}

abbrev pub form_is : Form → defs.Form
form_is Le = defs.le_form
form_is Ge = defs.ge_form

-- a row with both sides finite, or neither, has none
abbrev pub maybe_form : Option Form → defs.Form
maybe_form (Some f) = form_is f
maybe_form None = defs.no_form

abbrev pub bound_is : Float → Option Rebound → defs.Rewrite
bound_is a None = defs.coeff_only a
bound_is a (Some b) = defs.coeff_bound a b.to b.by

abbrev pub rewrite_is : Rewrite → defs.Rewrite
rewrite_is z = bound_is z.coeff z.bound

-- none where nothing is rewritten
abbrev pub maybe_rewrite : Option Rewrite → defs.Rewrite
maybe_rewrite (Some z) = rewrite_is z
maybe_rewrite None = defs.keeps

unfoldable pub binary_at : Bool → Float → Float → Bool
binary_at int elo ehi = int && eq elo 0f && eq ehi 1f

pub binary_of : (M : Model) (w : Work) (v : ℕ) → binary_at (is_int_domain M v) (at w.elo v) (at w.ehi v) ≡ binary M w v
unfolding binary_at binary
binary_of M w v = refl

module _ (M : Model) where
  unfoldable pub rewrite_at : Bool → defs.Form → Float → Row → Activity → Float → defs.Rewrite
  rewrite_at bin f nz row act a = choose (bin && not (eq a 0f)) (defs.vacuous M f nz row act a) defs.keeps

  pub rewrite_of_lem : {x : Limits} {row : Row} (f : defs.Form) (nz : Float) (w : Work) (act : Activity) (t : Term) → Has x row
      → rewrite_at (binary M w t.var) f nz (bare x) act t.coeff ≡ rewrite_of M f nz w row act t
  unfolding rewrite_at rewrite_of
  rewrite_of_lem f nz w act t h = cc (vacuous_of M f nz act t.coeff h)

  unfoldable pub spared_at : ℕ → ℕ → Bool
  spared_at len n = n == 0 || nat_lt M.params.coeff_tighten_short_row len && nat_lt M.params.coeff_tighten_row_cap n

  pub spared_of : (row : Row) (n : ℕ) → spared_at (length row.terms) n ≡ spared M row n
  unfolding spared_at spared
  spared_of row n = refl
