-- What the stores of one rewrite leave of its row: a coefficient, and a binding.
use Rattle.std.specs.Prelude.{ℕ, suc, ◌+◌, ◌-◌, ◌≤◌, ◌<◌, ◌≡◌, ◌≢◌, ◌⊎◌, List, length, get_or, set, Float}
use Rattle.std.proofs.Common.{arith, ap, ◌∙◌, inl, inr, get_or-set_same, get_or-set_other}
use Rattle.std.proofs.Math.Path.{refl, sym}
use Rattle.std.proofs.Math.Option.{some}
use Rattle.std.proofs.Math.ListN.{length-set}
use Rattle.std.specs.Float.{nan}
use Rattle.tolerances.specs.Tol.{term, at}
use Rattle.definition.specs.Model.{Model, from, upto, Row, Binding, with_binding}
use Rattle.definition.specs.Work.{Work, no_term}
use Rattle.definition.specs.Tighten.{set_coeff}
use Rattle.space.specs.declared.Context.{Context}
use Rattle.space.specs.Store.{Floats, Numbers, put_coeffs}
use Rattle.view.specs.Call.{Call}
use Rattle.view.specs.Shows.{Parts, parts_of, TermShown, BindingIs, is_bound, RowShown}
use Rattle.view.specs.Rows.{same?, OneRow}
use Rattle.folds.specs.Apart.{Apart, untouched, within, outside, nnz_is, other_shown}
use Rattle.folds.specs.Stands.{Stands}
use Rattle.folds.specs.Folding.{binding_same}

module _ {M : Model} {s : Context} {r : ℕ} {f : Floats} {n : Numbers} {w : Work} {x : Row} (c : Call M s) (p : r < length M.rhs) (h : Stands M r f n w x) where
  -- ---- the coefficient of the term at place i, whose variable is v
  module _ {a i : ℕ} (v : ℕ) (y : Float) (ea : a ≡ from M r) (q : i < length x.terms) (ev : v ≡ (get_or x.terms i no_term).var) (lc : length f.coeffs ≡ s.terms) where
    place : a + i < upto M r
    place = omega (arith, q, ea, h.shown.fits, nnz_is M r)

    abbrev coeffed : Parts
    coeffed = parts_of (put_coeffs (a + i) y f) n

    coeff_term : (k : ℕ) → k < length x.terms → (k ≡ i) ⊎ (k ≢ i) → TermShown coeffed (from M r + k) (get_or (set x.terms i (term v y)) k no_term)
    coeff_term k l (inl e) =
        let t : get_or (set x.terms i (term v y)) k no_term ≡ term v y = rw e (get_or-set_same x.terms i (term v y) no_term q) in
        let j : from M r + k ≡ a + i = omega (arith, e, ea) in
        rw t
        (record {
          var = (h.shown.terms k l).var ∙ ap (λ (m : ℕ). (get_or x.terms m no_term).var) e ∙ sym ev;
          coeff = ap (λ (m : ℕ). get_or (set f.coeffs (a + i) y) m nan) j ∙ get_or-set_same f.coeffs (a + i) y nan (omega (arith, place, c.last r p, c.terms, lc));
        })
    coeff_term k l (inr ne) =
        let t : get_or (set x.terms i (term v y)) k no_term ≡ get_or x.terms k no_term = get_or-set_other x.terms i k (term v y) no_term ne in
        let g = h.shown.terms k l in
        rw t (record { var = g.var; coeff = get_or-set_other f.coeffs (a + i) (from M r + k) y nan (λ u. ne (omega (arith, u, ea))) ∙ g.coeff })

    coeff_folded : (k : ℕ) → k < length x.folded → TermShown coeffed (upto M r - suc k) (get_or x.folded k no_term)
    coeff_folded k l =
        let g = h.shown.folded k l in
        let ne : upto M r - suc k ≢ a + i = λ u. omega (arith, u, l, q, ea, h.shown.fits, nnz_is M r) in
        record { var = g.var; coeff = get_or-set_other f.coeffs (a + i) (upto M r - suc k) y nan ne ∙ g.coeff }

    coeff_shown : RowShown M coeffed r (set_coeff i v y x)
    unfolding set_coeff
    coeff_shown =
        let e = length-set x.terms i (term v y) in
        record {
          len = h.shown.len ∙ sym e;
          folds = h.shown.folds;
          fits = omega (arith, h.shown.fits, e);
          terms = λ k l. coeff_term k (omega (arith, l, e)) (same? k i);
          folded = coeff_folded;
          lo = h.shown.lo;
          hi = h.shown.hi;
          fold_scale = h.shown.fold_scale;
          shift = h.shown.shift;
          touched = h.shown.touched;
          binding = binding_same refl refl refl refl refl h.shown.binding;
        }

    coeff_apart : Apart r (from M r) (upto M r) (parts_of f n) coeffed
    coeff_apart =
        record {
          lo = untouched f.lo nan;
          hi = untouched f.hi nan;
          fold_scale = untouched f.fold_scale nan;
          shift = untouched f.shift nan;
          written = untouched f.written nan;
          rewritten = untouched f.rewritten nan;
          kept = untouched f.kept nan;
          len = untouched n.len 0;
          folded = untouched n.folded 0;
          touched = untouched n.touched 0;
          binaries = untouched n.binaries 0;
          coeffs = within f.coeffs nan (a + i) y (omega (arith, ea)) place;
          vars = outside n.vars 0;
          binary = outside n.binary 0;
        }

    pub coeff_one : {f₁ : Floats} → f₁ ≡ put_coeffs (a + i) y f → OneRow M r (set_coeff i v y x) f n f₁ n
    unfolding set_coeff
    coeff_one e =
        rw e
        (record {
          alive = h.flag ∙ sym h.alive;
          now = λ _. coeff_shown;
          alive_other = λ k ne. refl;
          other = λ k z l ne g. other_shown c l p ne coeff_apart g;
          wlo = refl;
          whi = refl;
          elo = refl;
          ehi = refl;
          dirty = refl;
          coeff_dirty = refl;
          queued = refl;
          queue = refl;
          tally = refl;
          wave = refl;
        })

-- ---- the blocks of the bindings
abbrev pub bind_f : List Float → List Float → List Float → Floats → Floats
bind_f wr re kp f = record {
  wlo = f.wlo;
  whi = f.whi;
  elo = f.elo;
  ehi = f.ehi;
  lo = f.lo;
  hi = f.hi;
  fold_scale = f.fold_scale;
  shift = f.shift;
  written = wr;
  rewritten = re;
  kept = kp;
  bound = f.bound;
  coeffs = f.coeffs;
}

abbrev pub bind_n : List ℕ → List ℕ → Numbers → Numbers
bind_n bs bn n =
    record {
      queued = n.queued;
      dropped = n.dropped;
      tightened = n.tightened;
      fixed = n.fixed;
      rewrote = n.rewrote;
      passes = n.passes;
      dirty = n.dirty;
      coeff_dirty = n.coeff_dirty;
      queue = n.queue;
      wave = n.wave;
      len = n.len;
      folded = n.folded;
      alive = n.alive;
      touched = n.touched;
      binaries = bs;
      fate = n.fate;
      slot = n.slot;
      bad_dec = n.bad_dec;
      bad_inc = n.bad_inc;
      vars = n.vars;
      binary = bn;
    }

-- they are as they were, but for row r, whose span is a .. e
pub record Bindings (r a e : ℕ) (f : Floats) (n : Numbers) (wr re kp : List Float) (bs bn : List ℕ) : Type 0 where
  pub written : (q : ℕ) → q ≢ r → at wr q ≡ at f.written q
  pub rewritten : (q : ℕ) → q ≢ r → at re q ≡ at f.rewritten q
  pub kept : (q : ℕ) → q ≢ r → at kp q ≡ at f.kept q
  pub binaries : (q : ℕ) → q ≢ r → get_or bs q 0 ≡ get_or n.binaries q 0
  pub binary : (i : ℕ) → (i < a) ⊎ (e ≤ i) → get_or bn i 0 ≡ get_or n.binary i 0

module _ {M : Model} {s : Context} {r : ℕ} {f : Floats} {n : Numbers} {w : Work} {x : Row} (c : Call M s) (p : r < length M.rhs) (h : Stands M r f n w x)
    {wr re kp : List Float} {bs bn : List ℕ} (d : Bindings r (from M r) (upto M r) f n wr re kp bs bn) {b : Binding} (g : BindingIs M (parts_of (bind_f wr re kp f) (bind_n bs bn n)) r b) where
  abbrev bound : Parts
  bound = parts_of (bind_f wr re kp f) (bind_n bs bn n)

  bind_shown : RowShown M bound r (with_binding (some b) x)
  bind_shown =
      record {
        len = h.shown.len;
        folds = h.shown.folds;
        fits = h.shown.fits;
        terms = λ j l. let t = h.shown.terms j l in record { var = t.var; coeff = t.coeff };
        folded = λ j l. let t = h.shown.folded j l in record { var = t.var; coeff = t.coeff };
        lo = h.shown.lo;
        hi = h.shown.hi;
        fold_scale = h.shown.fold_scale;
        shift = h.shown.shift;
        touched = h.shown.touched;
        binding = is_bound {b = b} g;
      }

  bind_apart : Apart r (from M r) (upto M r) (parts_of f n) bound
  bind_apart =
      record {
        lo = untouched f.lo nan;
        hi = untouched f.hi nan;
        fold_scale = untouched f.fold_scale nan;
        shift = untouched f.shift nan;
        written = d.written;
        rewritten = d.rewritten;
        kept = d.kept;
        len = untouched n.len 0;
        folded = untouched n.folded 0;
        touched = untouched n.touched 0;
        binaries = d.binaries;
        coeffs = outside f.coeffs nan;
        vars = outside n.vars 0;
        binary = d.binary;
      }

  pub bind_one : {f₁ : Floats} {n₁ : Numbers} → f₁ ≡ bind_f wr re kp f → n₁ ≡ bind_n bs bn n → OneRow M r (with_binding (some b) x) f n f₁ n₁
  bind_one ef en =
      rw (ef, en)
      (record {
        alive = h.flag ∙ sym h.alive;
        now = λ _. bind_shown;
        alive_other = λ k ne. refl;
        other = λ k z l ne q. other_shown c l p ne bind_apart q;
        wlo = refl;
        whi = refl;
        elo = refl;
        ehi = refl;
        dirty = refl;
        coeff_dirty = refl;
        queued = refl;
        queue = refl;
        tally = refl;
        wave = refl;
      })
