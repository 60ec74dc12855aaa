-- One binary more in a row's binding, which may be its first.
use Rattle.std.specs.Prelude.{ℕ, ◌+◌, ◌≤◌, ◌<◌, ◌≡◌, refl, ◌≢◌, ◌⊎◌, List, [], ◌∷◌, ◌++◌, length, get_or, set, Float}
use Rattle.std.proofs.Common.{arith, ap, sym, ◌∙◌, subst, inl, inr, length-append, get_or-set_same, get_or-set_other}
use Rattle.std.proofs.Math.Option.{Option, none, some}
use Rattle.std.proofs.Math.ListN.{get_or-append}
use Rattle.std.proofs.lemmas.List.{get_or_at}
use Rattle.std.specs.Float.{nan}
use Rattle.floats.specs.Num.{◌⊕◌, 0f, abs}
use Rattle.definition.specs.Model.{Model, from, upto, Row, Binding, with_binding, rhs_mag}
use Rattle.definition.specs.Work.{Work, with_row}
use Rattle.definition.specs.Bindings.{taken}
use Rattle.space.specs.declared.Context.{Context}
use Rattle.space.specs.Store.{Floats, Numbers, put_written, put_kept, put_binaries, put_binary}
use Rattle.view.specs.Call.{Call}
use Rattle.view.specs.Shows.{parts_of, BindingIs}
use Rattle.view.specs.Acts.{Acts}
use Rattle.view.specs.Known.{Spans}
use Rattle.view.specs.Rows.{same?, OneRow}
use Rattle.readers.specs.Reading.{row_of, Alive}
use Rattle.folds.specs.Apart.{elsewhere, untouched, within, nnz_is}
use Rattle.folds.specs.Stands.{Stands, turns_acts}
use Rattle.folds.specs.Relaxing.{bound_of, unbound_is}
use Rattle.tighten.specs.Stores.{bind_f, bind_one}
use Rattle.tighten.specs.Settling.{mag_at, mag_is}

-- v's coefficient was a; re stands as the magnitude as rewritten until it is summed again
abbrev pub added_to : ℕ → Float → Float → Binding → Binding
added_to v a re old = record { binaries = old.binaries ++ (v ∷ []); written = old.written ⊕ abs a; rewritten = re; kept = old.kept }

-- b is the row's bound
abbrev pub with_binary : ℕ → Float → Float → Float → Row → Row
with_binary v a b re x = with_binding (some (added_to v a re (taken (rhs_mag x b) x.binding))) x

-- the row's span has a place for it
pub record BinaryRoom (ss : List ℕ) (s : Context) (n : Numbers) (r : ℕ) : Type 0 where
  pub long : r + 1 < length ss
  pub room : get_or ss r 0 + get_or n.binaries r 0 < get_or ss (r + 1) 0
  pub last : get_or ss (r + 1) 0 ≤ s.terms
  pub small : s.terms ≤ 65536

taken_none : (mag : Float) {o : Option Binding} → o ≡ none → taken mag o ≡ record { binaries = []; written = mag; rewritten = mag; kept = 0f }
unfolding taken
taken_none mag e = ap (taken mag) e

taken_some : (mag : Float) {o : Option Binding} {b : Binding} → o ≡ some b → taken mag o ≡ b
unfolding taken
taken_some mag e = ap (taken mag) e

pub from_is : {ss : List ℕ} (M : Model) (r : ℕ) → M.starts ≡ ss → from M r ≡ get_or ss r 0
unfolding from
from_is M r e = ap (λ (l : List ℕ). get_or l r 0) e

upto_is : {ss : List ℕ} (M : Model) (r : ℕ) → M.starts ≡ ss → upto M r ≡ get_or ss (r + 1) 0
unfolding upto
upto_is M r e = ap (λ (l : List ℕ). get_or l (r + 1) 0) e

-- the binaries from place a on, after v is stored behind them
add_at : (bn : List ℕ) (a v : ℕ) (vs : List ℕ) (k : ℕ) → k ≡ length vs → a + k < length bn → ((j : ℕ) → j < length vs → get_or bn (a + j) 0 ≡ get_or vs j 0)
    → (j : ℕ) → j < length (vs ++ (v ∷ [])) → (j ≡ k) ⊎ (j ≢ k)
    → get_or (set bn (a + k) v) (a + j) 0 ≡ get_or (vs ++ (v ∷ [])) j 0
add_at bn a v vs k ek l h j q (inl e) =
    ap (λ (m : ℕ). get_or (set bn (a + k) v) (a + m) 0) e ∙ get_or-set_same bn (a + k) v 0 l ∙ sym (get_or_at vs v [] 0 j (sym ek ∙ sym e))
add_at bn a v vs k ek l h j q (inr ne) =
    let y : j < length vs = omega (arith, q, ne, ek, length-append vs (v ∷ [])) in
    get_or-set_other bn (a + k) (a + j) v 0 (λ u. ne (omega (arith, u))) ∙ h j y ∙ sym (get_or-append vs (v ∷ []) 0 j y)

module _ {ss : List ℕ} {s : Context} {f : Floats} {n : Numbers} {r : ℕ} (v : ℕ) (a b : Float) (p : r < s.rows) (R : BinaryRoom ss s n r)
    (lb : length n.binary ≡ s.terms) (lc : length n.binaries ≡ s.rows) (lw : length f.written ≡ s.rows)
    {k i : ℕ} (ek : k ≡ get_or n.binaries r 0) (ei : i ≡ get_or ss r 0) {d : Float} (ed : d ≡ abs a) {n₁ n₂ : Numbers} (e₁ : n₁ ≡ put_binary (i + k) v n) (e₂ : n₂ ≡ put_binaries r (k + 1) n₁) where
  -- what stood there in the slices, and what the two sums are now
  module _ {M : Model} {w : Work} {x : Row} (q : Spans ss M) (c : Call M s) (h : Stands M r f n w x) (old : Binding) (count : k ≡ length old.binaries)
      (shown : (j : ℕ) → j < length old.binaries → get_or n.binary (from M r + j) 0 ≡ get_or old.binaries j 0)
      (wr : Float) (ew : wr ≡ old.written) (kp : List Float) (gk : get_or kp r nan ≡ old.kept) (ok : (q : ℕ) → q ≢ r → get_or kp q nan ≡ get_or f.kept q nan) where
    start : i ≡ from M r
    start = ei ∙ sym (from_is M r q.starts)

    in_span : i + k < upto M r
    in_span = omega (arith, ei, ek, R.room, upto_is M r q.starts)

    add_is : BindingIs M (parts_of (bind_f (set f.written r (wr ⊕ d)) f.rewritten kp f) (put_binaries r (k + 1) (put_binary (i + k) v n))) r (added_to v a (get_or f.rewritten r nan) old)
    add_is =
        let le = length-append old.binaries (v ∷ []) in
        record {
          count = get_or-set_same n.binaries r (k + 1) 0 (omega (arith, p, lc)) ∙ omega (arith, count, le);
          some = omega (arith, le);
          fits = omega (arith, le, count, in_span, start, nnz_is M r);
          binary = λ j l.
              ap (λ (m : ℕ). get_or (set n.binary (m + k) v) (from M r + j) 0) start
              ∙ add_at n.binary (from M r) v old.binaries k count (omega (arith, in_span, start, c.last r (omega (arith, p, c.rows)), c.terms, lb)) shown j l (same? j k);
          written = get_or-set_same f.written r (wr ⊕ d) nan (omega (arith, p, lw)) ∙ ap (λ (m : Float). m ⊕ d) ew ∙ ap (λ (m : Float). old.written ⊕ m) ed;
          rewritten = refl;
          kept = gk;
        }

    add_one : {f₁ : Floats} → f₁ ≡ bind_f (set f.written r (wr ⊕ d)) f.rewritten kp f → OneRow M r (with_binding (some (added_to v a (get_or f.rewritten r nan) old)) x) f n f₁ n₂
    add_one ef =
        bind_one c (omega (arith, p, c.rows)) h
        (record {
          written = elsewhere f.written nan r (wr ⊕ d);
          rewritten = untouched f.rewritten nan;
          kept = ok;
          binaries = elsewhere n.binaries 0 r (k + 1);
          binary = within n.binary 0 (i + k) v (omega (arith, start)) in_span;
        })
        add_is ef (e₂ ∙ ap (put_binaries r (k + 1)) e₁)

  module _ (al : Alive n r) where
    pub add_first : {f₁ f₂ : Floats} {y : Float} → length f.kept ≡ s.rows → k ≡ 0 → y ≡ mag_at f r b → f₁ ≡ put_written r (y ⊕ d) f → f₂ ≡ put_kept r 0f f₁
        → Acts (Spans ss) s f n f₂ n₂ (λ M w. with_row r (with_binary v a b (get_or f.rewritten r nan) (row_of w r)) w)
    add_first {f₁} {f₂} {y} lk z ey g₁ g₂ =
        turns_acts
        {F = λ M w x. with_binary v a b (get_or f.rewritten r nan) x}
        p al
        (record {
          does = λ M w x q c h.
              let e = taken_none (rhs_mag x b) (unbound_is h.shown.binding (sym ek ∙ z)) in
              subst (λ (o : Binding). OneRow M r (with_binding (some (added_to v a (get_or f.rewritten r nan) o)) x) f n f₂ n₂) (sym e)
              (add_one q c h (record { binaries = []; written = rhs_mag x b; rewritten = rhs_mag x b; kept = 0f }) z (λ j l. absurd (omega arith)) y (ey ∙ sym (mag_is x b h.shown.shift))
              (set f.kept r 0f) (get_or-set_same f.kept r 0f nan (omega (arith, p, lk))) (elsewhere f.kept nan r 0f) (g₂ ∙ ap (put_kept r 0f) g₁));
        })

    pub add_more : {f₁ : Floats} {y : Float} → (k ≡ 0 → ⊥) → y ≡ get_or f.written r nan → f₁ ≡ put_written r (y ⊕ d) f → Acts (Spans ss) s f n f₁ n₂
        (λ M w. with_row r (with_binary v a b (get_or f.rewritten r nan) (row_of w r)) w)
    add_more {f₁} {y} z ey g₁ =
        turns_acts
        {F = λ M w x. with_binary v a b (get_or f.rewritten r nan) x}
        p al
        (record {
          does = λ M w x q c h.
              let t = bound_of h.shown.binding (λ e. z (ek ∙ e)) in
              let e = taken_some (rhs_mag x b) t.is in
              subst (λ (u : Binding). OneRow M r (with_binding (some (added_to v a (get_or f.rewritten r nan) u)) x) f n f₁ n₂) (sym e)
              (add_one q c h t.binding (ek ∙ t.shown.count) t.shown.binary y (ey ∙ t.shown.written) f.kept t.shown.kept (untouched f.kept nan) g₁);
        })
