-- A variable's domain, a bound's tolerance and the value of a fixed variable, by the ways through their readers.
use Rattle.std.specs.Prelude.{ℕ, ◌≡◌, refl, Bool, true, false, not, ◌&&◌, List, eqb, get_or, Float}
use Rattle.std.proofs.Math.Path.{ap, sym}
use Rattle.std.proofs.Common.{◌∙◌}
use Rattle.std.specs.Float.{nan}
use Rattle.floats.specs.Num.{0f}
use Rattle.tolerances.specs.Tol.{at, bound_tolerance}
use Rattle.tolerances.specs.Usual.{usual, usual_tolerance}
use Rattle.definition.specs.Model.{Model, is_int, is_int_domain, is_mip}
use Rattle.definition.specs.Work.{Work, fixed, bound_tol}
use Rattle.definition.specs.Singles.{fixed_value}
use Rattle.definition.specs.Choices.{and_left, and_right}
use Rattle.space.specs.declared.Context.{Context}
use Rattle.space.specs.Store.{Floats, Numbers}
use Rattle.formulas.specs.declared.Ends.{Ends}
use Rattle.formulas.specs.Fixing.{int_domain, int_domain_of, fixed_at, fixed_of}
use Rattle.view.specs.Call.{Call}
use Rattle.view.specs.Shows.{Shows}
use Rattle.view.specs.Lists.{yes, no}
use Rattle.view.specs.Acts.{Any}
use Rattle.view.specs.Bounds.{elo_is, ehi_is}
use Rattle.readers.specs.Reading.{ReadsF, ReadsM, Tells, Domains}

-- ---- is_int_domain
pub domain_is : {ds : List ℕ} (v : ℕ) {z : Bool} → z ≡ int_domain (get_or ds v 0) → Tells (Domains ds) z (λ M. is_int_domain M v)
domain_is v e = record { tells = λ M d. sym (int_domain_of M v) ∙ ap (λ (l : List ℕ). int_domain (get_or l v 0)) d.domain ∙ sym e }

mip_is : (M : Model) (v : ℕ) {z : Bool} → is_mip M ≡ true → is_int_domain M v ≡ z → is_int M v ≡ z
unfolding is_int
mip_is M v a b = rw (a, b)

lp_is : (M : Model) (v : ℕ) → is_mip M ≡ false → is_int M v ≡ false
unfolding is_int
lp_is M v a = rw a

-- ---- is_int: in Mip what is_int_domain says, in Lp false
pub int_mip : {ds : List ℕ} {s : Context} (v : ℕ) {z : Bool} → s.mip ≡ true → Tells (Domains ds) z (λ M. is_int_domain M v) → ReadsM (Domains ds) s z (λ M. is_int M v)
int_mip v e t = record { reads = λ M d c. mip_is M v (sym c.mip ∙ e) (t.tells M d) }

pub int_lp : {ds : List ℕ} {s : Context} (v : ℕ) → s.mip ≡ false → ReadsM (Domains ds) s false (λ M. is_int M v)
int_lp v e = record { reads = λ M d c. lp_is M v (sym c.mip ∙ e) }

-- by the number: in Mip, not Real
unfoldable pub int_code : Bool → ℕ → Bool
int_code mip d = mip && not (eqb d 1)

pub int_is : {M : Model} {s : Context} {ds : List ℕ} (v : ℕ) → Call M s → M.domain ≡ ds → is_int M v ≡ int_code s.mip (get_or ds v 0)
unfolding is_int is_int_domain is_mip int_code
int_is v c e = cc (c.mip, e)

pub int_yes : {mip : Bool} (d : ℕ) → mip ≡ true → not (eqb d 1) ≡ int_code mip d
unfolding int_code
int_yes d e = rw e

pub int_no : {mip : Bool} (d : ℕ) → mip ≡ false → false ≡ int_code mip d
unfolding int_code
int_no d e = rw e

-- of a model whose domains are ds
pub int_reads : {ds : List ℕ} {s : Context} (v : ℕ) {z : Bool} → z ≡ int_code s.mip (get_or ds v 0) → ReadsM (Domains ds) s z (λ M. is_int M v)
int_reads v e = record { reads = λ M d c. int_is v c d.domain ∙ sym e }

-- ---- bound_tol
module _ {s : Context} {f : Floats} (v : ℕ) {upper : Bool} {x z : Float} where
  pub tol_upper : upper ≡ true → x ≡ get_or f.ehi v nan → z ≡ bound_tolerance s.feas x → ReadsF Any s f z (λ M w. bound_tol M w v upper)
  unfolding bound_tol
  tol_upper u ex ez =
      record {
        reads = λ M n o k w p c h i.
            ap (bound_tolerance M.feas) (yes _ _ u ∙ sym (ehi_is v h ex)) ∙ ap (λ (t : Float). bound_tolerance t x) (sym c.feas) ∙ sym ez;
      }

  pub tol_lower : upper ≡ false → x ≡ get_or f.elo v nan → z ≡ bound_tolerance s.feas x → ReadsF Any s f z (λ M w. bound_tol M w v upper)
  unfolding bound_tol
  tol_lower u ex ez =
      record {
        reads = λ M n o k w p c h i.
            ap (bound_tolerance M.feas) (no _ _ u ∙ sym (elo_is v h ex)) ∙ ap (λ (t : Float). bound_tolerance t x) (sym c.feas) ∙ sym ez;
      }

-- bounds of usual size
module _ (t x y : Float) {lo : Float} {p : Bool} (el : lo ≡ x) (ep : p ≡ usual t lo) where
  pub usual_both : {hi : Float} {q : Bool} → hi ≡ y → p ≡ true → q ≡ usual t hi → q ≡ (usual t x && usual t y)
  usual_both eh tp eq = eq ∙ ap (usual t) eh ∙ sym (ap (λ (b : Bool). b && usual t y) (ap (usual t) (sym el) ∙ sym ep ∙ tp))

  pub usual_not : p ≡ false → false ≡ (usual t x && usual t y)
  usual_not tp = sym (ap (λ (b : Bool). b && usual t y) (ap (usual t) (sym el) ∙ sym ep ∙ tp))

module _ {s : Context} {f : Floats} (v : ℕ) {z : Bool} (e : z ≡ (usual s.feas (get_or f.elo v nan) && usual s.feas (get_or f.ehi v nan))) (y : z ≡ true) where
  pub usual_lower : ReadsF Any s f s.feas (λ M w. bound_tol M w v false)
  usual_lower = tol_lower v refl refl (sym (usual_tolerance _ _ (and_left _ (usual s.feas (get_or f.ehi v nan)) (sym e ∙ y))))

  pub usual_upper : ReadsF Any s f s.feas (λ M w. bound_tol M w v true)
  usual_upper = tol_upper v refl refl (sym (usual_tolerance _ _ (and_right (usual s.feas (get_or f.elo v nan)) _ (sym e ∙ y))))

-- ---- fixed_value
module _ {f : Floats} (v : ℕ) {lo hi : Float} {b : Bool} (el : lo ≡ get_or f.elo v nan) (eh : hi ≡ get_or f.ehi v nan) (eb : b ≡ fixed_at lo hi) where
  fixed_is : {M : Model} {n : Numbers} {o : List ℕ} {w : Work} → Shows M f n o w → fixed w v ≡ b
  fixed_is {w = w} h = sym (eb ∙ ap (λ (x : Float). fixed_at x hi) (elo_is v h el) ∙ ap (fixed_at (at w.elo v)) (ehi_is v h eh) ∙ fixed_of v w)

  module _ {s : Context} where
    pub value_fixed : b ≡ true → ReadsF Any s f lo (λ M w. fixed_value w v)
    unfolding fixed_value
    value_fixed t = record { reads = λ M n o k w p c h i. yes _ _ (fixed_is h ∙ t) ∙ sym (elo_is v h el) }

    pub value_free : b ≡ false → ReadsF Any s f 0f (λ M w. fixed_value w v)
    unfolding fixed_value
    value_free t = record { reads = λ M n o k w p c h i. no _ _ (fixed_is h ∙ t) }

-- ---- the emitted bounds of v, each with its tolerance
pub record ReadsEnds (s : Context) (f : Floats) (v : ℕ) (e : Ends) : Type 0 where
  pub lo : e.lo ≡ get_or f.elo v nan
  pub hi : e.hi ≡ get_or f.ehi v nan
  pub tol_lo : ReadsF Any s f e.tol_lo (λ M w. bound_tol M w v false)
  pub tol_hi : ReadsF Any s f e.tol_hi (λ M w. bound_tol M w v true)
