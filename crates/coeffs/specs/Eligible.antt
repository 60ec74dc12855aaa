-- What a rewrite does to a term, and how many terms are eligible, on the slices.
use Rattle.std.specs.Prelude.{ℕ, ◌+◌, ◌≤◌, ◌<◌, ◌≡◌, Bool, List, [], ◌∷◌, length, get_or, Float}
use Rattle.std.proofs.Common.{arith, ap, sym, ◌∙◌}
use Rattle.std.proofs.Math.Path.{refl}
use Rattle.std.specs.Float.{nan}
use Rattle.tolerances.specs.Tol.{Term, term}
use Rattle.definition.specs.declared.Activity.{Activity}
use Rattle.definition.specs.Model.{Model, is_int_domain}
use Rattle.definition.specs.Work.{Work}
use Rattle.definition.specs.Rewrites as defs
use Rattle.definition.specs.Tighten.{binary, rewrite_of, eligible}
use Rattle.formulas.specs.declared.Limits.{Limits}
use Rattle.formulas.specs.Bare.{bare, Has, ByParams}
use Rattle.formulas.specs.Rewriting.{binary_at, binary_of, rewrite_at, rewrite_of_lem}
use Rattle.space.specs.declared.Context.{Context}
use Rattle.space.specs.Store.{Floats, Numbers}
use Rattle.view.specs.Call.{Call}
use Rattle.view.specs.Shows.{Shows}
use Rattle.view.specs.Acts.{Ready, Reads}
use Rattle.view.specs.Known.{Spans}
use Rattle.view.specs.Bounds.{elo_is, ehi_is}
use Rattle.readers.specs.Reading.{row_of, Alive, ReadsF, Tells, Domains}
use Rattle.readers.specs.Limits.{ReadsLimits}
use Rattle.coeffs.specs.Along.{Along, along_start, along_turn, along_end}

-- the domains, and where the rows' spans are
pub record Binaries (ds ss : List ℕ) (M : Model) : Type 0 where
  pub domain : M.domain ≡ ds
  pub starts : M.starts ≡ ss

pub binaries_spans : {ds ss : List ℕ} (M : Model) → Binaries ds ss M → Spans ss M
binaries_spans M k = record { starts = k.starts }

pub binaries_domains : {ds ss : List ℕ} (M : Model) → Binaries ds ss M → Domains ds M
binaries_domains M k = record { domain = k.domain }

pub domain_in : {ds ss : List ℕ} {s : Context} {f : Floats} {n : Numbers} {v : ℕ} → Ready (Binaries ds ss) s f n → v < s.vars → v < length ds
domain_in R p = omega (arith, p, R.call.vars, R.call.domains, ap length R.known.domain)

-- x is row r's four floats, in whatever state the floats show with the row alive
pub record RowLimits (s : Context) (f : Floats) (r : ℕ) (x : Limits) : Type 0 where
  pub has : (M : Model) (n : Numbers) (o : List ℕ) (w : Work) → Call M s → Shows M f n o w → Alive n r → Has x (row_of w r)

pub row_limits : {s : Context} {f : Floats} {r terms : ℕ} {x : Limits} → ReadsLimits s f r terms x → RowLimits s f r x
row_limits L = record { has = L.has }

-- ---- is_binary
pub is_binary : {ds : List ℕ} {s : Context} {f : Floats} (v : ℕ) {i b : Bool} {lo hi : Float} → Tells (Domains ds) i (λ M. is_int_domain M v)
    → lo ≡ get_or f.elo v nan → hi ≡ get_or f.ehi v nan → b ≡ binary_at i lo hi
    → ReadsF (Domains ds) s f b (λ M w. binary M w v)
is_binary v ti el eh eb = record { reads = λ M n o k w p c h j. sym (binary_of M w v) ∙ cc (ti.tells M p, elo_is v h el, ehi_is v h eh, eb) }

-- ---- rewrite_term: of the variable v with the coefficient a, in a row with the limits x
pub term_rewrite : {ds : List ℕ} {s : Context} {f : Floats} (v : ℕ) (form : defs.Form) (nz : Float) (x : Limits) (act : Activity) (a : Float) {b : Bool}
    {z : defs.Rewrite} → ReadsF (Domains ds) s f b (λ M w. binary M w v)
    → ByParams z (λ M. rewrite_at M b form nz (bare x) act a) → ReadsF (Domains ds) s f z (λ M w. rewrite_at M (binary M w v) form nz (bare x) act a)
term_rewrite v form nz x act a rb t =
    record { reads = λ M n o k w p c h j. ap (λ (y : Bool). rewrite_at M y form nz (bare x) act a) (rb.reads M n o k w p c h j) ∙ sym (t.of M c.params) }

-- ---- eligible
module _ (form : defs.Form) (nz : Float) (act : Activity) (r : ℕ) where
  abbrev pub count_from : Model → Work → ℕ → List Term → ℕ
  count_from M w d ts = eligible M form nz w (row_of w r) act ts d

  abbrev pub count_all : Model → Work → ℕ
  count_all M w = eligible M form nz w (row_of w r) act (row_of w r).terms 0

  abbrev count_step : Model → Work → Term → ℕ → ℕ
  count_step M w t d = d + defs.rewrites (rewrite_of M form nz w (row_of w r) act t)

  count_cons : (M : Model) (w : Work) (d : ℕ) (t : Term) (ts : List Term) → count_from M w d (t ∷ ts) ≡ count_from M w (count_step M w t d) ts
  unfolding eligible
  count_cons M w d t ts = refl

  count_nil : (M : Model) (w : Work) (d : ℕ) → count_from M w d [] ≡ d
  unfolding eligible
  count_nil M w d = refl

rewrites_le : (x : defs.Rewrite) → defs.rewrites x ≤ 1
unfolding defs.rewrites
rewrites_le defs.keeps = omega arith
rewrites_le (defs.coeff_only a) = omega arith
rewrites_le (defs.coeff_bound a b d) = omega arith

-- after k terms, d of them eligible
pub record Counting (ds ss : List ℕ) (s : Context) (f : Floats) (n : Numbers) (form : defs.Form) (nz : Float) (act : Activity) (r k d : ℕ) : Type 0 where
  pub few : d ≤ k
  pub along : Along (Binaries ds ss) s f n r k d (count_from form nz act r) (count_all form nz act r)

module _ {ds ss : List ℕ} {s : Context} {f : Floats} {n : Numbers} (form : defs.Form) (nz : Float) (act : Activity) (r : ℕ) where
  pub count_start : Counting ds ss s f n form nz act r 0 0
  count_start = record { few = omega arith; along = along_start (λ M w. refl) }

  module _ {k d : ℕ} (p : r < s.rows) (a : Alive n r) (C : Counting ds ss s f n form nz act r k d) {l : ℕ} (el : l ≡ get_or n.len r 0) where
    pub count_turn : (x : Limits) {v z : ℕ} {c : Float} {y : defs.Rewrite} → RowLimits s f r x → k < l → v ≡ get_or n.vars (get_or ss r 0 + k) 0 → c ≡ get_or f.coeffs (get_or ss r 0 + k) nan
        → ReadsF (Domains ds) s f y (λ M w. rewrite_at M (binary M w v) form nz (bare x) act c) → z ≡ defs.rewrites y → Counting ds ss s f n form nz act r (k + 1) (d + z)
    count_turn x {v} {z} {c} {y} lim kl ev ec t ez =
        record {
          few = omega (arith, C.few, ez, rewrites_le y);
          along =
              along_turn binaries_spans p a C.along el (count_step form nz act r) (count_cons form nz act r) kl ev ec
              (record {
                reads = λ M o j w q g h i.
                    let e : rewrite_of M form nz w (row_of w r) act (term v c) ≡ y = sym (rewrite_of_lem M form nz w act (term v c) (lim.has M n o w g h a))
                    ∙ t.reads M n o j w (binaries_domains M q) g h i in
                    ap (λ (m : defs.Rewrite). d + defs.rewrites m) e ∙ ap (λ (m : ℕ). d + m) (sym ez);
              });
        }

    pub count_end : l ≤ k → Reads (Binaries ds ss) s f n d (count_all form nz act r)
    count_end lk = along_end binaries_spans p a C.along el (count_nil form nz act r) lk
