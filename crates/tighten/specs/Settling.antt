-- A row's binding, once its binaries are right: the magnitude as rewritten, and what it keeps.
use Rattle.std.specs.Prelude.{ℕ, ◌<◌, ◌≡◌, refl, List, length, get_or, Float}
use Rattle.std.proofs.Common.{arith, ap, sym, ◌∙◌, subst, get_or-set_same}
use Rattle.std.proofs.Math.Option.{Option, none, some}
use Rattle.std.specs.Float.{nan}
use Rattle.floats.specs.Num.{◌⊕◌, ◌⊖◌, 0f, abs, maxf}
use Rattle.definition.specs.Model.{Model, Row, Binding, with_binding, rhs_mag}
use Rattle.definition.specs.Work.{Work, with_row}
use Rattle.definition.specs.Folds.{fixed_besides, rewrite_room}
use Rattle.definition.specs.Bindings.{sum_coeffs}
use Rattle.space.specs.declared.Context.{Context}
use Rattle.space.specs.Store.{Floats, Numbers, put_rewritten, put_kept}
use Rattle.view.specs.Call.{Call}
use Rattle.view.specs.Shows.{Shows, parts_of}
use Rattle.view.specs.Inv.{Inv}
use Rattle.view.specs.Acts.{Reads, Acts}
use Rattle.view.specs.Known.{Spans}
use Rattle.view.specs.Rows.{OneRow, shows_row}
use Rattle.readers.specs.Reading.{row_of, Alive}
use Rattle.readers.specs.RowAt.{row_shown}
use Rattle.formulas.specs.Bare.{ByTol}
use Rattle.folds.specs.Apart.{elsewhere, untouched, outside}
use Rattle.folds.specs.Besides.{binaries_of}
use Rattle.folds.specs.Stands.{TellsRow, stands_in}
use Rattle.folds.specs.Relaxing.{Bound, bound_of}
use Rattle.coeffs.specs.Bound.{sum_all}
use Rattle.tighten.specs.Stores.{bind_one}

-- ---- the magnitude of a bound of row r, and of its binding branch, as rewritten
abbrev pub mag_at : Floats → ℕ → Float → Float
mag_at f r b = abs (b ⊕ get_or f.shift r nan)

pub mag_is : (x : Row) (b : Float) {y : Float} → y ≡ x.shift → rhs_mag x b ≡ abs (b ⊕ y)
unfolding rhs_mag
mag_is x b e = ap (λ (z : Float). abs (b ⊕ z)) (sym e)

abbrev pub rewritten_mag : ℕ → Float → Model → Work → Float
rewritten_mag r bp M w = rhs_mag (row_of w r) bp ⊕ sum_all r M w

pub rewritten_reads : {P : Model → Type 0} {s : Context} {f : Floats} {n : Numbers} {r : ℕ} {y z : Float} (bp : Float) → r < s.rows → Alive n r
    → y ≡ mag_at f r bp → Reads P s f n z (sum_all r) → Reads P s f n (y ⊕ z) (rewritten_mag r bp)
rewritten_reads {r = r} {y = y} bp p a ey t =
    record {
      reads = λ M o k w q c h i.
          ap (λ (u : Float). u ⊕ sum_all r M w) (mag_is (row_of w r) bp (row_shown c h p a).shift ∙ sym ey) ∙ ap (λ (u : Float). y ⊕ u) (t.reads M o k w q c h i);
    }

-- ---- what the binding keeps, its magnitude as rewritten being re
abbrev pub kept_with : Model → Work → Row → Float → Binding → Float
kept_with M w x re b = maxf (rewrite_room M b.written re (fixed_besides w x b.binaries)) b.kept

abbrev pub kept_by : Model → Work → Row → Float → Option Binding → Float
kept_by M w x re none = 0f
kept_by M w x re (some b) = kept_with M w x re b

abbrev pub kept_after : ℕ → Float → Model → Work → Float
kept_after r re M w = kept_by M w (row_of w r) re (row_of w r).binding

module _ {s : Context} {f : Floats} {n : Numbers} {r : ℕ} (p : r < s.rows) (a : Alive n r) (l : 0 < get_or n.binaries r 0) where
  -- the binding that a state has
  bound_at : {M : Model} {o : List ℕ} {w : Work} → Call M s → Shows M f n o w → Bound M (parts_of f n) r (row_of w r).binding
  bound_at c h = bound_of (row_shown c h p a).binding (λ e. omega (arith, e, l))

  pub kept_reads : {ss : List ℕ} (re : Float) {fx wr old room z : Float} → TellsRow (Spans ss) s r f n fx (λ M w x. fixed_besides w x (binaries_of x.binding))
      → wr ≡ get_or f.written r nan → old ≡ get_or f.kept r nan
      → ByTol s.feas room (λ M. rewrite_room M wr re fx) → z ≡ maxf room old → Reads (Spans ss) s f n z (kept_after r re)
  kept_reads re {fx} {wr} {old} t ew eo er ez =
      record {
        reads = λ M o k w q c h i.
            let y = bound_at c h in
            let b = y.binding in
            let ef : fixed_besides w (row_of w r) b.binaries ≡ fx = ap (λ (m : Option Binding). fixed_besides w (row_of w r) (binaries_of m)) (sym y.is)
            ∙ t.tells M w (row_of w r) q c (stands_in c p a h) in
            let e₁ : b.written ≡ wr = sym y.shown.written ∙ sym ew in
            let e₂ : b.kept ≡ old = sym y.shown.kept ∙ sym eo in
            ap (kept_by M w (row_of w r) re) y.is ∙ ap (λ (m : Float). maxf (rewrite_room M m re (fixed_besides w (row_of w r) b.binaries)) b.kept) e₁ ∙ ap
            (λ (m : Float). maxf (rewrite_room M wr re m) b.kept) ef
            ∙ ap (λ (m : Float). maxf (rewrite_room M wr re fx) m) e₂ ∙ ap (λ (m : Float). maxf m old) (sym (er.of M (sym c.feas))) ∙ sym ez;
      }

-- ---- the binding with both
abbrev pub settled_with : Model → Work → Float → Row → Binding → Binding
settled_with M w bp x b =
    record {
      binaries = b.binaries;
      written = b.written;
      rewritten = rhs_mag x bp ⊕ sum_coeffs x 0f b.binaries;
      kept = kept_with M w x (rhs_mag x bp ⊕ sum_coeffs x 0f b.binaries) b;
    }

abbrev pub settled_by : Model → Work → Float → Row → Option Binding → Option Binding
settled_by M w bp x none = none
settled_by M w bp x (some b) = some (settled_with M w bp x b)

abbrev pub settled : Model → Work → Float → Row → Row
settled M w bp x = with_binding (settled_by M w bp x x.binding) x

-- and what it keeps more
abbrev pub kept_of : Option Binding → Float
kept_of none = 0f
kept_of (some b) = b.kept

abbrev pub settled_growth : Model → Work → Float → Row → Float
settled_growth M w bp x = kept_of (settled_by M w bp x x.binding) ⊖ kept_of x.binding

abbrev sums : Binding → Float → Float → Binding
sums b re kept = record { binaries = b.binaries; written = b.written; rewritten = re; kept = kept }

module _ {ss : List ℕ} {s : Context} {f : Floats} {n : Numbers} {r : ℕ} (bp : Float) (p : r < s.rows) (a : Alive n r) (l : 0 < get_or n.binaries r 0)
    {re kept : Float} (t : Reads (Spans ss) s f n re (rewritten_mag r bp)) (u : Reads (Spans ss) s f n kept (kept_after r re)) where
  module _ {M : Model} {o : List ℕ} {k : ℕ} {w : Work} (q : Spans ss M) (c : Call M s) (h : Shows M f n o w) (i : Inv M k w) where
    abbrev x : Row
    x = row_of w r

    abbrev here : Bound M (parts_of f n) r x.binding
    here = bound_at p a l c h

    abbrev b : Binding
    b = here.binding

    re_is : rhs_mag x bp ⊕ sum_coeffs x 0f b.binaries ≡ re
    re_is = ap (λ (m : Option Binding). rhs_mag x bp ⊕ sum_coeffs x 0f (binaries_of m)) (sym here.is) ∙ t.reads M o k w q c h i

    kept_is : kept_with M w x (rhs_mag x bp ⊕ sum_coeffs x 0f b.binaries) b ≡ kept
    kept_is = ap (λ (m : Float). kept_with M w x m b) re_is ∙ ap (kept_by M w x re) (sym here.is) ∙ u.reads M o k w q c h i

    with_is : settled_with M w bp x b ≡ sums b re kept
    with_is = λ m. record { binaries = b.binaries; written = b.written; rewritten = re_is m; kept = kept_is m }

    settled_is : settled_by M w bp x x.binding ≡ some (sums b re kept)
    settled_is = ap (settled_by M w bp x) here.is ∙ ap (λ (m : Binding). some m) with_is

  pub store_acts : {f₁ f₂ : Floats} → length f.rewritten ≡ s.rows → length f.kept ≡ s.rows → f₁ ≡ put_rewritten r re f → f₂ ≡ put_kept r kept f₁
      → Acts (Spans ss) s f n f₂ n (λ M w. with_row r (settled M w bp (row_of w r)) w)
  store_acts {f₁} {f₂} lr lk e₁ e₂ =
      record {
        does = λ M o k w q c h i.
            let y = bound_at p a l c h in
            let x = row_of w r in
            let j : r < length M.rhs = omega (arith, p, c.rows) in
            let one =
            bind_one c j (stands_in c p a h)
            (record {
              written = untouched f.written nan;
              rewritten = elsewhere f.rewritten nan r re;
              kept = elsewhere f.kept nan r kept;
              binaries = untouched n.binaries 0;
              binary = outside n.binary 0;
            })
            {b = sums y.binding re kept}
            (record {
              count = y.shown.count;
              some = y.shown.some;
              fits = y.shown.fits;
              binary = y.shown.binary;
              written = y.shown.written;
              rewritten = get_or-set_same f.rewritten r re nan (omega (arith, p, lr));
              kept = get_or-set_same f.kept r kept nan (omega (arith, p, lk));
            })
            {f₁ = f₂}
            (e₂ ∙ ap (put_kept r kept) e₁) refl in
            shows_row r (settled M w bp x) w j h i (subst (λ (m : Option Binding). OneRow M r (with_binding m x) f n f₂ n) (sym (settled_is q c h i)) one);
      }

  pub store_growth : {old : Float} → old ≡ get_or f.kept r nan → Reads (Spans ss) s f n (kept ⊖ old) (λ M w. settled_growth M w bp (row_of w r))
  store_growth {old} e =
      record {
        reads = λ M o k w q c h i.
            let y = bound_at p a l c h in
            let g : kept_of (row_of w r).binding ≡ old = ap kept_of y.is ∙ sym y.shown.kept ∙ sym e in
            ap (λ (m : Option Binding). kept_of m ⊖ kept_of (row_of w r).binding) (settled_is q c h i) ∙ ap (λ (m : Float). kept ⊖ m) g;
      }
