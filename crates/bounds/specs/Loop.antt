-- A loop over a row's live terms that changes no row: from whatever state the slices showed, they show one that K relates to it.
use Rattle.std.specs.Prelude.{ℕ, ◌+◌, ◌<◌, ◌≡◌, List, length, get_or, Float, Ok}
use Rattle.std.proofs.Common.{arith, ap, sym, ◌∙◌, subst}
use Rattle.std.specs.Float.{nan}
use Rattle.tolerances.specs.Tol.{term}
use Rattle.definition.specs.Model.{Model, Row}
use Rattle.definition.specs.Work.{Work, Step, no_row, no_term}
use Rattle.space.specs.declared.Context.{Context}
use Rattle.space.specs.Store.{Floats, Numbers}
use Rattle.view.specs.Call.{Call}
use Rattle.view.specs.Shows.{Shows}
use Rattle.view.specs.Inv.{Inv}
use Rattle.view.specs.Acts.{Ready, Tries}
use Rattle.view.specs.Steps.{went_is}
use Rattle.view.specs.Known.{Spans}
use Rattle.readers.specs.Reading.{row_of, Alive}
use Rattle.readers.specs.RowAt.{TermAt, RowAt, row_at, row_alive, alive_of}
use Rattle.bounds.specs.Same.{Same, same_next}

pub record Onward (M : Model) (f : Floats) (n : Numbers) (o : List ℕ) (k : ℕ) (K : Work → Type 0) : Type 0 where
  pub work : Work
  pub shows : Shows M f n o work
  pub inv : Inv M k work
  pub holds : K work

pub record Turning (P : Model → Type 0) (s : Context) (f₀ : Floats) (n₀ : Numbers) (f : Floats) (n : Numbers) (K : Model → Work → Work → Type 0) : Type 0 where
  pub each : (M : Model) (o : List ℕ) (k : ℕ) (w : Work) → P M → Call M s → Shows M f₀ n₀ o w → Inv M k w → Onward M f n o k (K M w)

-- nothing is done yet
pub turning_start : {P : Model → Type 0} {s : Context} {f : Floats} {n : Numbers} {K : Model → Work → Work → Type 0} → ((M : Model) (w : Work) → K M w w) → Turning P s f n f n K
turning_start g = record { each = λ M o k w x c h i. record { work = w; shows = h; inv = i; holds = g M w } }

module _ {P : Model → Type 0} {s : Context} {f₀ : Floats} {n₀ : Numbers} {f : Floats} {n : Numbers} {K : Model → Work → Work → Type 0} (R : Ready P s f₀ n₀) (T : Turning P s f₀ n₀ f n K) where
  pub turned : Onward R.model f n R.other R.left (K R.model R.work)
  turned = T.each R.model R.other R.left R.work R.known R.call R.shows R.inv

  pub turning_ready : Ready P s f n
  turning_ready =
      record {
        model = R.model;
        other = R.other;
        left = R.left;
        work = turned.work;
        known = R.known;
        call = R.call;
        shows = turned.shows;
        inv = turned.inv;
      }

-- the row stands as it did
module _ {P : Model → Type 0} {s : Context} {f₀ : Floats} {n₀ : Numbers} {f : Floats} {n : Numbers} {K : Model → Work → Work → Type 0} {ss : List ℕ} {r : ℕ}
    (same : (M : Model) (w u : Work) → K M w u → u.rows ≡ w.rows) (q : (M : Model) → P M → Spans ss M) (p : r < s.rows) (a : Alive n₀ r) (T : Turning P s f₀ n₀ f n K) where
  module _ {M : Model} {o : List ℕ} {k : ℕ} {w : Work} (x : P M) (c : Call M s) (h : Shows M f₀ n₀ o w) (i : Inv M k w) where
    abbrev now : Onward M f n o k (K M w)
    now = T.each M o k w x c h i

    pub row_same : row_of now.work r ≡ row_of w r
    row_same = ap (λ (l : List Row). get_or l r no_row) (same M w now.work now.holds)

    pub still_alive : Alive n r
    still_alive = alive_of c now.shows p (ap (λ (y : Row). y.alive) row_same ∙ row_alive c h p a)

    pub row_still : RowAt ss s f n r (row_of w r)
    row_still = subst (RowAt ss s f n r) row_same (row_at c now.shows p still_alive now.inv (q M x))

    -- the term at place i is the one that the code read there
    pub term_still : {j v : ℕ} {y : Float} → j < length (row_of w r).terms → v ≡ get_or n.vars (get_or ss r 0 + j) 0 → y ≡ get_or f.coeffs (get_or ss r 0 + j) nan
        → get_or (row_of w r).terms j no_term ≡ term v y
    term_still {j} {v} {y} l ev ey =
        let t = row_still.terms j l in
        let bv : (get_or (row_of w r).terms j no_term).var ≡ v = sym t.var ∙ sym ev in
        let by : (get_or (row_of w r).terms j no_term).coeff ≡ y = sym t.coeff ∙ sym ey in
        λ m. term (bv m) (by m)

    pub len_is : get_or n₀.len r 0 ≡ length (row_of w r).terms
    len_is = (row_at c h p a i (q M x)).len

  module _ (R : Ready P s f₀ n₀) where
    abbrev here : RowAt ss s f n r (row_of R.work r)
    here = row_still R.known R.call R.shows R.inv

    module _ {i l : ℕ} (el : l ≡ get_or n₀.len r 0) (il : i < l) where
      term_here_lem : TermAt s f n (get_or ss r 0 + i) (get_or (row_of R.work r).terms i no_term)
      term_here_lem = here.terms i (omega (arith, il, el, len_is R.known R.call R.shows R.inv))

      pub still_place : get_or ss r 0 + i < s.terms
      still_place = term_here_lem.place

      pub still_small : get_or ss r 0 + i < 65536
      still_small = omega (arith, still_place, here.small)

      pub still_var : {v : ℕ} → v ≡ get_or n.vars (get_or ss r 0 + i) 0 → v < s.vars
      still_var e = omega (arith, e, term_here_lem.var, term_here_lem.below)

-- ---- a row is alive after a step that changes no row
module _ {P : Model → Type 0} {s : Context} {f f₁ : Floats} {n n₁ : Numbers} {r : ℕ} (R : Ready P s f n) where
  pub alive_went : {F : Model → Work → Step} → Tries P s f n f₁ n₁ (Ok tt) F → ((M : Model) (w : Work) → Same w (F M w)) → r < s.rows → Alive n r → Alive n₁ r
  alive_went t g p a =
      let d = went_is (t.does R.model R.other R.left R.work R.known R.call R.shows R.inv) in
      let e = same_next (g R.model R.work) d.is in
      alive_of R.call d.shows p (ap (λ (l : List Row). (get_or l r no_row).alive) e ∙ row_alive R.call R.shows p a)
