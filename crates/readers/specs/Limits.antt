-- The four floats of an alive row, and how many terms it has as written, as the caller counted them.
use Rattle.std.specs.Prelude.{ℕ, ◌<◌, ◌≡◌, refl, List, get_or, Float}
use Rattle.std.proofs.Common.{◌∙◌}
use Rattle.std.specs.Float.{nan}
use Rattle.definition.specs.Model.{Model}
use Rattle.definition.specs.Work.{Work}
use Rattle.space.specs.declared.Context.{Context}
use Rattle.space.specs.Store.{Floats, Numbers}
use Rattle.formulas.specs.declared.Limits.{Limits}
use Rattle.formulas.specs.Bare.{Has}
use Rattle.view.specs.Call.{Call}
use Rattle.view.specs.Shows.{Shows}
use Rattle.readers.specs.Reading.{row_of, Alive}
use Rattle.readers.specs.RowAt.{row_shown}

-- x is row r's, in whatever state the floats show with the row alive
pub record ReadsLimits (s : Context) (f : Floats) (r count : ℕ) (x : Limits) : Type 0 where
  pub has : (M : Model) (n : Numbers) (o : List ℕ) (w : Work) → Call M s → Shows M f n o w → Alive n r → Has x (row_of w r)
  pub feas : x.feas ≡ s.feas
  pub terms : x.terms ≡ count

module _ {s : Context} {f : Floats} (r : ℕ) (p : r < s.rows) where
  pub limits_read : {lo hi scale shift : Float} {terms : ℕ} → lo ≡ get_or f.lo r nan → hi ≡ get_or f.hi r nan → scale ≡ get_or f.fold_scale r nan → shift ≡ get_or f.shift r nan
      → ReadsLimits s f r terms (record { lo = lo; hi = hi; fold_scale = scale; shift = shift; feas = s.feas; terms = terms })
  limits_read e₁ e₂ e₃ e₄ =
      record {
        has = λ M n o w c h a.
            let x = row_shown c h p a in
            record { lo = e₁ ∙ x.lo; hi = e₂ ∙ x.hi; fold_scale = e₃ ∙ x.fold_scale; shift = e₄ ∙ x.shift };
        feas = refl;
        terms = refl;
      }
