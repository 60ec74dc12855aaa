-- `tighten_binary_coeffs` of src/presolve/work.rs of microlp 0.7.0, changed: what a rewrite does to one term (Savelsbergh).
-- Functions of records alone. In a row with one finite side a binary has a vacuous branch where, with the binary at that value, the rest of the row
-- meets the bound whatever it is. The coefficient, and where need be the bound, are changed so that this branch only just holds; the other branch,
-- the binding one, asks the same of the rest as before. So the row gets tighter for values that are not whole, and whole points are kept. The vacuous
-- branch is relaxed by the activity's round-off and slack, the binding one by what the rewrite takes out of the row's tolerance (Bindings).
use Rattle.std.specs.Prelude.{ℕ, not, ◌&&◌, eqb, Float}
use Rattle.std.specs.Float.Ieee.{neg, lt}
use Rattle.floats.specs.Num.{choose, ◌⊕◌, ◌⊖◌, ◌⊗◌, gt, 0f, is_finite, maxf, minf}
use Rattle.tolerances.specs.Tol.{ROUNDOFF_FLOOR}
use Rattle.definition.specs.declared.Activity.{Activity}
use Rattle.definition.specs.Model.{Model, Row, rhs_mag}

abbrev pub with_l : Float → Activity → Activity
with_l x a = record { l = x; u = a.u; ninf_l = a.ninf_l; ninf_u = a.ninf_u; absL = a.absL; absU = a.absU; slack_l = a.slack_l; slack_u = a.slack_u }

abbrev pub with_u : Float → Activity → Activity
with_u x a = record { l = a.l; u = x; ninf_l = a.ninf_l; ninf_u = a.ninf_u; absL = a.absL; absU = a.absU; slack_l = a.slack_l; slack_u = a.slack_u }

-- which side a row's one finite bound is on; a row with both, or none, is left alone
pub data Form : Type 0 where
  le_form ge_form no_form : Form

unfoldable pub form_of : Row → Form
form_of row = choose (is_finite row.hi && not (is_finite row.lo)) le_form (choose (is_finite row.lo && not (is_finite row.hi)) ge_form no_form)

-- what a rewrite does: nothing; a new coefficient; or a new coefficient, the row's new bound before its relaxation, and how far it moved
pub data Rewrite : Type 0 where
  keeps : Rewrite
  coeff_only : Float → Rewrite
  coeff_bound : Float → Float → Float → Rewrite

unfoldable pub rewrites : Rewrite → ℕ
rewrites keeps = 0
rewrites (coeff_only a) = 1
rewrites (coeff_bound a b d) = 1

-- `nz`, the relaxation of the vacuous branch: the round-off part is added in both forms
unfoldable pub vacuous_room : Form → Row → Activity → Float
vacuous_room le_form row act = act.slack_u ⊕ ROUNDOFF_FLOOR ⊗ (act.absU ⊕ rhs_mag row row.hi ⊕ row.fold_scale)
vacuous_room ge_form row act = act.slack_l ⊕ ROUNDOFF_FLOOR ⊗ (act.absL ⊕ rhs_mag row row.lo ⊕ row.fold_scale)
vacuous_room no_form row act = 0f

-- the activity after a rewrite of the coefficient a
unfoldable pub act_after : Form → Float → Rewrite → Activity → Activity
act_after f a keeps act = act
act_after le_form a (coeff_bound na bp d) act = with_u (act.u ⊖ d) act
act_after le_form a (coeff_only na) act = with_l (act.l ⊕ (na ⊖ a)) act
act_after ge_form a (coeff_bound na bp d) act = with_l (act.l ⊕ d) act
act_after ge_form a (coeff_only na) act = with_u (act.u ⊖ (a ⊖ na)) act
act_after no_form a (coeff_bound na bp d) act = act
act_after no_form a (coeff_only na) act = act

module _ (M : Model) where
  -- a Le row, b its bound, rest_u the rest's largest value. a > 0: at zero the branch is vacuous, and a and b shrink; else at one, and |a| shrinks
  unfoldable pub shrink_le : Float → Float → Float → Float → Rewrite
  shrink_le nz b rest_u a =
      let bp = rest_u ⊕ nz in
      let delta = b ⊖ bp in
      let na = a ⊖ delta in
      choose (gt delta (M.params.coeff_min_improve ⊗ a) && gt na 0f) (coeff_bound na bp delta) keeps

  unfoldable pub raise_le : Float → Float → Float → Float → Rewrite
  raise_le nz b rest_u a =
      let na = b ⊖ (rest_u ⊕ nz) in
      choose (gt (na ⊖ a) (M.params.coeff_min_improve ⊗ neg a) && lt na 0f) (coeff_only na) keeps

  unfoldable pub vacuous_le : Float → Row → Activity → Float → Rewrite
  vacuous_le nz row act a =
      let rest_u = act.u ⊖ maxf a 0f in
      choose (gt a 0f) (shrink_le nz row.hi rest_u a) (raise_le nz row.hi rest_u a)

  -- a Ge row, rest_l the rest's smallest value
  unfoldable pub shrink_ge : Float → Float → Float → Float → Rewrite
  shrink_ge nz b rest_l a =
      let bp = rest_l ⊖ nz in
      let delta = bp ⊖ b in
      let na = a ⊕ delta in
      choose (gt delta (M.params.coeff_min_improve ⊗ neg a) && lt na 0f) (coeff_bound na bp delta) keeps

  unfoldable pub lower_ge : Float → Float → Float → Float → Rewrite
  lower_ge nz b rest_l a =
      let na = b ⊖ (rest_l ⊖ nz) in
      choose (gt (a ⊖ na) (M.params.coeff_min_improve ⊗ a) && gt na 0f) (coeff_only na) keeps

  unfoldable pub vacuous_ge : Float → Row → Activity → Float → Rewrite
  vacuous_ge nz row act a =
      let rest_l = act.l ⊖ minf a 0f in
      choose (lt a 0f) (shrink_ge nz row.lo rest_l a) (lower_ge nz row.lo rest_l a)

  unfoldable pub vacuous : Form → Float → Row → Activity → Float → Rewrite
  vacuous le_form nz row act a = choose (eqb act.ninf_u 0) (vacuous_le nz row act a) keeps
  vacuous ge_form nz row act a = choose (eqb act.ninf_l 0) (vacuous_ge nz row act a) keeps
  vacuous no_form nz row act a = keeps
