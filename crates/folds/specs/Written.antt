-- The row as written, put into the slices: `Row::as_written`.
use Rattle.std.specs.Prelude.{ℕ, zero, suc, ◌+◌, ◌-◌, ◌≤◌, ◌<◌, ◌≡◌, refl, ◌≢◌, ◌⊎◌, Bool, true, false, eqb, length, set, take, drop, Float}
use Rattle.std.proofs.Common.{arith, T, eqb→eq, ◌∙◌, subst, inl, inr, length-take, length-drop, get_or-set_other, get_or-take, get_or-drop}
use Rattle.std.proofs.Math.Path.{ap, sym}
use mathlib.Core.List.{List, [], ◌∷◌}
use Rattle.std.proofs.Math.Dec.{eqb-suc-suc, eqb-suc-zero, eqb-zero-suc}
use Rattle.std.proofs.Math.ListN.{get_or}
use Rattle.std.proofs.Math.Seq.{get_or-set_same}
use Rattle.std.specs.Float.Ieee.{nan, neg, of_bits}
use Rattle.floats.specs.Num.{choose, 0f, ∞f, -∞f}
use Rattle.tolerances.specs.Tol.{term, at, zip_terms}
use Rattle.tolerances.specs.declared.Comparison.{Comparison}
use Rattle.tolerances.specs.declared.Comparison.TheVariants.{Equal, AtMost, AtLeast}
use Rattle.tolerances.specs.Answers.{comparison_of}
use Rattle.definition.specs.declared.Rows.{Rows}
use Rattle.definition.specs.Model.{Model, from, upto, nnz, written, op_of, rhs_of, Row, as_written}
use Rattle.definition.specs.Work.{no_term}
use Rattle.space.specs.declared.Context.{Context}
use Rattle.space.specs.Store.{Floats, Numbers, put_lo, put_hi, put_fold_scale, put_shift, put_coeffs, put_len, put_folded, put_alive, put_touched, put_binaries, put_vars}
use Rattle.view.specs.Call.{Call}
use Rattle.view.specs.Shows.{is_one, Parts, parts_of, TermShown, unbound, RowShown}
use Rattle.view.specs.Known.{Written}
use Rattle.view.specs.Lists.{yes, no, one_is, zero_is}
use Rattle.view.specs.Rows.{same?, OneRow}
use Rattle.folds.specs.Apart.{Apart, elsewhere, untouched, outside, nnz_is, other_shown}
use Rattle.folds.specs.Sized.{Sized}

pub eqb_same : (x k : ℕ) → x ≡ k → eqb x k ≡ true
eqb_same x k e = rw e (go k)
  where
    go : (j : ℕ) → eqb j j ≡ true
    go zero = refl
    go (suc j) = eqb-suc-suc j j ∙ go j

pub eqb_differ : (x k : ℕ) → (x ≡ k → ⊥) → eqb x k ≡ false
eqb_differ zero zero n = absurd (n refl)
eqb_differ zero (suc k) n = eqb-zero-suc k
eqb_differ (suc x) zero n = eqb-suc-zero x
eqb_differ (suc x) (suc k) n = eqb-suc-suc x k ∙ eqb_differ x k (λ e. n (ap suc e))

-- a model that the read-only slices have: what a function asks that the working slices need not show anything for
pub record Described (P : Model → Type 0) (s : Context) : Type 0 where
  pub model : Model
  pub known : P model
  pub call : Call model s

-- ---- a side by its comparison, as the tests say it
pub side_yes : (x k : ℕ) {A : Type 0} (u v : A) → x ≡ k → u ≡ choose (eqb x k) u v
side_yes x k u v e = sym (yes u v (eqb_same x k e))

pub side_no : (x k : ℕ) {A : Type 0} (u v : A) → (x ≡ k → ⊥) → v ≡ choose (eqb x k) u v
side_no x k u v e = sym (no u v (eqb_differ x k e))

pub below_inf : {x : Float} → x ≡ ∞f → neg x ≡ -∞f
unfolding neg of_bits
below_inf e = ap neg e

-- ---- the two sides by the comparison and the right side b
abbrev pub sides_of : ℕ → Float → Float × Float
sides_of op b = (choose (eqb op 1) -∞f b, choose (eqb op 2) ∞f b)

abbrev pub sides_by : Comparison → Float → Float × Float
sides_by Equal b = (b, b)
sides_by AtMost b = (-∞f, b)
sides_by AtLeast b = (b, ∞f)

pub sides_byte : (op : ℕ) (b : Float) → sides_by (comparison_of op) b ≡ sides_of op b
unfolding comparison_of choose
sides_byte op b = go (eqb op 1) (eqb op 2) (λ p q. omega (arith, eqb→eq op 1 p, eqb→eq op 2 q))
  where
    go : (u v : Bool) → (T u → T v → ⊥) → sides_by (choose u AtMost (choose v AtLeast Equal)) b ≡ (choose u -∞f b, choose v ∞f b)
    go true true h = absurd (h tt tt)
    go true false h = refl
    go false true h = refl
    go false false h = refl

pub sides_in : (op : ℕ) (b : Float) {c d : Comparison} → c ≡ comparison_of op → c ≡ d → sides_by d b ≡ sides_of op b
sides_in op b e g = ap (λ (u : Comparison). sides_by u b) (sym g ∙ e) ∙ sides_byte op b

-- what such a function promises: row r shows X, and the rest shows what it did
pub record WritesRow (P : Model → Type 0) (s : Context) (r : ℕ) (f : Floats) (n : Numbers) (f' : Floats) (n' : Numbers) (X : Model → Row) : Type 0 where
  pub does : (M : Model) → P M → Call M s → OneRow M r (X M) f n f' n'

-- ---- the input row's terms
pub zip_length : (vs : List ℕ) (cs : List Float) → length vs ≡ length cs → length (zip_terms vs cs) ≡ length vs
unfolding zip_terms
zip_length [] cs e = refl
zip_length (v ∷ vs) [] e = absurd (omega arith)
zip_length (v ∷ vs) (a ∷ cs) e = ap suc (zip_length vs cs (omega arith))

pub zip_at : (vs : List ℕ) (cs : List Float) (k : ℕ) → length vs ≡ length cs → k < length vs → get_or (zip_terms vs cs) k no_term ≡ term (get_or vs k 0) (at cs k)
unfolding zip_terms
zip_at [] cs k e h = absurd (omega arith)
zip_at (v ∷ vs) [] k e h = absurd (omega arith)
zip_at (v ∷ vs) (a ∷ cs) zero e h = refl
zip_at (v ∷ vs) (a ∷ cs) (suc k) e h = zip_at vs cs k (omega arith) (omega arith)

pub span_length : {A : Type 0} (l : List A) (a n : ℕ) → a + n ≤ length l → length (take n (drop a l)) ≡ n
span_length l a n h = simp (length-take, length-drop) (omega arith)

pub span_at : {A : Type 0} (l : List A) (a n k : ℕ) (d : A) → k < n → get_or (take n (drop a l)) k d ≡ get_or l (a + k) d
span_at l a n k d h = get_or-take n (drop a l) k d h ∙ get_or-drop a l k d

module _ {M : Model} {s : Context} {r : ℕ} (c : Call M s) (p : r < length M.rhs) where
  in_index : from M r + nnz M r ≤ length M.index
  in_index = omega (arith, nnz_is M r, c.rise r p, c.last r p)

  pub indices : length (take (nnz M r) (drop (from M r) M.index)) ≡ nnz M r
  indices = span_length M.index (from M r) (nnz M r) in_index

  coefficients : length (take (nnz M r) (drop (from M r) M.coeff)) ≡ nnz M r
  coefficients = span_length M.coeff (from M r) (nnz M r) (omega (arith, in_index, c.coeffs))

  pub written_length : length (written M r) ≡ nnz M r
  unfolding written
  written_length = zip_length _ _ (indices ∙ sym coefficients) ∙ indices

  pub written_at : (k : ℕ) → k < nnz M r → get_or (written M r) k no_term ≡ term (get_or M.index (from M r + k) 0) (at M.coeff (from M r + k))
  unfolding written
  written_at k h =
      zip_at _ _ k (indices ∙ sym coefficients) (omega (arith, indices, h)) ∙ rw (span_at M.index (from M r) (nnz M r) k 0 h, span_at M.coeff (from M r) (nnz M r) k nan h)

-- ---- write_terms: the places a .. e of the two blocks are the input's, and nothing else changed
abbrev pub with_coeffs : List Float → Floats → Floats
with_coeffs xs f = record {
  wlo = f.wlo;
  whi = f.whi;
  elo = f.elo;
  ehi = f.ehi;
  lo = f.lo;
  hi = f.hi;
  fold_scale = f.fold_scale;
  shift = f.shift;
  written = f.written;
  rewritten = f.rewritten;
  kept = f.kept;
  bound = f.bound;
  coeffs = xs;
}

abbrev pub with_vars : List ℕ → Numbers → Numbers
with_vars vs f = record {
  queued = f.queued;
  dropped = f.dropped;
  tightened = f.tightened;
  fixed = f.fixed;
  rewrote = f.rewrote;
  passes = f.passes;
  dirty = f.dirty;
  coeff_dirty = f.coeff_dirty;
  queue = f.queue;
  wave = f.wave;
  len = f.len;
  folded = f.folded;
  alive = f.alive;
  touched = f.touched;
  binaries = f.binaries;
  fate = f.fate;
  slot = f.slot;
  bad_dec = f.bad_dec;
  bad_inc = f.bad_inc;
  vars = vs;
  binary = f.binary;
}

pub record TermsCopied (is : List ℕ) (cs : List Float) (a e : ℕ) (f : Floats) (n : Numbers) (f' : Floats) (n' : Numbers) : Type 0 where
  pub new_coeffs : List Float
  pub new_vars : List ℕ
  pub floats : f' ≡ with_coeffs new_coeffs f
  pub numbers : n' ≡ with_vars new_vars n
  pub coeffs : (k : ℕ) → a ≤ k → k < e → at new_coeffs k ≡ at cs k
  pub vars : (k : ℕ) → a ≤ k → k < e → get_or new_vars k 0 ≡ get_or is k 0
  pub other_coeffs : (k : ℕ) → (k < a) ⊎ (e ≤ k) → at new_coeffs k ≡ at f.coeffs k
  pub other_vars : (k : ℕ) → (k < a) ⊎ (e ≤ k) → get_or new_vars k 0 ≡ get_or n.vars k 0

pub copied_none : {is : List ℕ} {cs : List Float} {a : ℕ} {f : Floats} {n : Numbers} → TermsCopied is cs a a f n f n
copied_none {f = f} {n} =
    record {
      new_coeffs = f.coeffs;
      new_vars = n.vars;
      floats = refl;
      numbers = refl;
      coeffs = λ k x y. absurd (omega arith);
      vars = λ k x y. absurd (omega arith);
      other_coeffs = λ k x. refl;
      other_vars = λ k x. refl;
    }

-- one element more of a list that is copied place by place
module _ {A : Type 0} (d : A) (old src l : List A) {a i : ℕ} {x : A} (long : i < length l) (ex : x ≡ get_or src i d) where
  copy_more : ((k : ℕ) → a ≤ k → k < i → get_or l k d ≡ get_or src k d) → (k : ℕ) → a ≤ k → k < i + 1 → get_or (set l i x) k d ≡ get_or src k d
  copy_more h k p q = go (same? k i)
    where
      go : (k ≡ i) ⊎ (k ≢ i) → get_or (set l i x) k d ≡ get_or src k d
      go (inl e) = rw e (get_or-set_same l i x d long ∙ ex)
      go (inr n) = get_or-set_other l i k x d n ∙ h k p (omega arith)

  copy_other : a ≤ i → ((k : ℕ) → (k < a) ⊎ (i ≤ k) → get_or l k d ≡ get_or old k d) → (k : ℕ) → (k < a) ⊎ (i + 1 ≤ k) → get_or (set l i x) k d ≡ get_or old k d
  copy_other p h k (inl q) = get_or-set_other l i k x d (λ z. omega arith) ∙ h k (inl q)
  copy_other p h k (inr q) = get_or-set_other l i k x d (λ z. omega arith) ∙ h k (inr (omega arith))

pub copied_more : {s : Context} {is : List ℕ} {cs : List Float} {a i v : ℕ} {x : Float} {f f₁ f₂ : Floats} {n n₁ n₂ : Numbers} → TermsCopied is cs a i f n f₁ n₁ → Sized s f₁ n₁ → a ≤ i → i < s.terms
    → v ≡ get_or is i 0 → n₂ ≡ put_vars i v n₁ → x ≡ get_or cs i nan → f₂ ≡ put_coeffs i x f₁ → TermsCopied is cs a (i + 1) f n f₂ n₂
copied_more {s} {is} {cs} {a} {i} {v} {x} {f} {f₁} {f₂} {n} {n₁} {n₂} h z p l ev en ex ef =
    let lc : i < length h.new_coeffs = omega (arith, l, z.coeffs, ap (λ (g : Floats). length g.coeffs) h.floats) in
    let lv : i < length h.new_vars = omega (arith, l, z.vars, ap (λ (g : Numbers). length g.vars) h.numbers) in
    record {
      new_coeffs = set h.new_coeffs i x;
      new_vars = set h.new_vars i v;
      floats = ef ∙ ap (put_coeffs i x) h.floats;
      numbers = en ∙ ap (put_vars i v) h.numbers;
      coeffs = copy_more nan f.coeffs cs h.new_coeffs lc ex h.coeffs;
      vars = copy_more 0 n.vars is h.new_vars lv ev h.vars;
      other_coeffs = copy_other nan f.coeffs cs h.new_coeffs lc ex p h.other_coeffs;
      other_vars = copy_other 0 n.vars is h.new_vars lv ev p h.other_vars;
    }

pub copied_end : {is : List ℕ} {cs : List Float} {a i e : ℕ} {f f' : Floats} {n n' : Numbers} → TermsCopied is cs a i f n f' n' → e ≤ i → i ≤ e → TermsCopied is cs a e f n f' n'
copied_end {is} {cs} {a} {i} {e} {f} {f'} {n} {n'} h p q = let z : i ≡ e = omega arith in subst (λ (j : ℕ). TermsCopied is cs a j f n f' n') z h

-- ---- as_written: the stores after the terms
abbrev pub sides_put : ℕ → Float → Float → Floats → Floats
sides_put r lo hi f = put_shift r 0f (put_fold_scale r 0f (put_hi r hi (put_lo r lo f)))

abbrev pub marks_put : ℕ → ℕ → Numbers → Numbers
marks_put r k n = put_binaries r 0 (put_touched r 0 (put_alive r 1 (put_folded r 0 (put_len r k n))))

pub sides_put_lem : (r : ℕ) (lo hi : Float) (f : Floats) {f₁ f₂ f₃ f₄ : Floats} → f₁ ≡ put_lo r lo f → f₂ ≡ put_hi r hi f₁ → f₃ ≡ put_fold_scale r 0f f₂ → f₄ ≡ put_shift r 0f f₃
    → f₄ ≡ sides_put r lo hi f
sides_put_lem r lo hi f e₁ e₂ e₃ e₄ = rw (e₄, e₃, e₂, e₁)

pub marks_put_lem : (r k : ℕ) (n : Numbers) {n₁ n₂ n₃ n₄ n₅ : Numbers} → n₁ ≡ put_len r k n → n₂ ≡ put_folded r 0 n₁ → n₃ ≡ put_alive r 1 n₂
    → n₄ ≡ put_touched r 0 n₃ → n₅ ≡ put_binaries r 0 n₄ → n₅ ≡ marks_put r k n
marks_put_lem r k n e₁ e₂ e₃ e₄ e₅ = rw (e₅, e₄, e₃, e₂, e₁)

-- how long the model's lists are, each by itself, and what their places have
module _ {s : Context} {M : Model} (c : Call M s) where
  pub starts_long : {starts : List ℕ} → M.starts ≡ starts → s.rows + 1 ≤ length starts
  starts_long e = omega (arith, ap length e, c.starts, c.rows)

  pub cmp_long : {cmp : List ℕ} → M.cmp ≡ cmp → s.rows ≤ length cmp
  cmp_long e = omega (arith, ap length e, c.cmps, c.rows)

  pub rhs_long : {rhs : List Float} → M.rhs ≡ rhs → s.rows ≤ length rhs
  rhs_long e = omega (arith, ap length e, c.rows)

  pub index_long : {index : List ℕ} → M.index ≡ index → s.terms ≤ length index
  index_long e = omega (arith, ap length e, c.terms)

  pub index_under : {index : List ℕ} {k n : ℕ} → M.index ≡ index → k < s.terms → s.vars ≤ n → get_or index k 0 < n
  index_under {k = k} e p q = omega (arith, q, ap (λ (l : List ℕ). get_or l k 0) e, c.index k (omega (arith, p, c.terms)), c.vars)

  pub starts_rise : {starts : List ℕ} {r : ℕ} → M.starts ≡ starts → r < s.rows → get_or starts r 0 ≤ get_or starts (r + 1) 0
  unfolding from upto
  starts_rise {r = r} e p = rw (← e) (c.rise r (omega (arith, p, c.rows)))

  pub starts_within : {starts : List ℕ} {r : ℕ} → M.starts ≡ starts → r < s.rows → get_or starts (r + 1) 0 ≤ s.terms
  unfolding upto
  starts_within {r = r} e p = rw (← e) (let z = c.last r (omega (arith, p, c.rows)) in omega (arith, z, c.terms))

module _ {s : Context} {rows : Rows} where
  -- what the read-only slices hold of row r
  module _ (G : Described (Written rows) s) {r : ℕ} (p : r < s.rows) where
    abbrev M₀ : Model
    M₀ = G.model

    in_rows : r < length M₀.rhs
    in_rows = omega (arith, p, G.call.rows)

    pub coeff_long : s.terms ≤ length rows.coeff.now
    coeff_long = omega (arith, ap length G.known.coeff, G.call.terms, G.call.coeffs)

    from_is : from M₀ r ≡ get_or rows.starts.now r 0
    unfolding from
    from_is = ap (λ (l : List ℕ). get_or l r 0) G.known.starts

    upto_is : upto M₀ r ≡ get_or rows.starts.now (r + 1) 0
    unfolding upto
    upto_is = ap (λ (l : List ℕ). get_or l (r + 1) 0) G.known.starts

    pub span_rises : get_or rows.starts.now r 0 ≤ get_or rows.starts.now (r + 1) 0
    span_rises = omega (arith, from_is, upto_is, G.call.rise r in_rows)

    pub span_within : get_or rows.starts.now (r + 1) 0 ≤ s.terms
    span_within = omega (arith, upto_is, G.call.last r in_rows, G.call.terms)

  module _ {r a e : ℕ} {lo hi : Float} {f f₁ : Floats} {n n₁ : Numbers} (p : r < s.rows) (z : Sized s f n) (ea : a ≡ get_or rows.starts.now r 0) (ee : e ≡ get_or rows.starts.now (r + 1) 0)
      (es : (lo, hi) ≡ sides_of (get_or rows.cmp.now r 0) (get_or rows.rhs.now r nan)) (h : TermsCopied rows.index.now rows.coeff.now a e f n f₁ n₁) where
    module _ (M : Model) (k : Written rows M) (c : Call M s) where
      l : r < length M.rhs
      l = omega (arith, p, c.rows)

      a_is : a ≡ from M r
      unfolding from
      a_is = ea ∙ ap (λ (y : List ℕ). get_or y r 0) (sym k.starts)

      e_is : e ≡ upto M r
      unfolding upto
      e_is = ee ∙ ap (λ (y : List ℕ). get_or y (r + 1) 0) (sym k.starts)

      lo_is : lo ≡ (as_written M r).lo
      unfolding as_written op_of rhs_of
      lo_is = rw (k.cmp, k.rhs) (ap (λ (u : Float × Float). u.0) es)

      hi_is : hi ≡ (as_written M r).hi
      unfolding as_written op_of rhs_of
      hi_is = rw (k.cmp, k.rhs) (ap (λ (u : Float × Float). u.1) es)

      abbrev parts : Parts
      parts = parts_of (sides_put r lo hi (with_coeffs h.new_coeffs f)) (marks_put r (e - a) (with_vars h.new_vars n))

      term_is : (j : ℕ) → j < nnz M r → TermShown parts (from M r + j) (get_or (written M r) j no_term)
      term_is j q =
          let x : a ≤ from M r + j = omega (arith, a_is) in
          let y : from M r + j < e = omega (arith, e_is, q, nnz_is M r) in
          rw (written_at c l j q)
          (record {
            var = h.vars (from M r + j) x y ∙ ap (λ (v : List ℕ). get_or v (from M r + j) 0) (sym k.index);
            coeff = h.coeffs (from M r + j) x y ∙ ap (λ (v : List Float). get_or v (from M r + j) nan) (sym k.coeff);
          })

      shown : RowShown M parts r (as_written M r)
      unfolding as_written
      shown =
          record {
            len = get_or-set_same n.len r (e - a) 0 (omega (arith, p, z.len)) ∙ omega (arith, a_is, e_is, nnz_is M r, written_length c l);
            folds = get_or-set_same n.folded r 0 0 (omega (arith, p, z.folded));
            fits = omega (arith, written_length c l);
            terms = λ j q. term_is j (omega (arith, q, written_length c l));
            folded = λ j q. absurd (omega (arith, q));
            lo = get_or-set_same f.lo r lo nan (omega (arith, p, z.lo)) ∙ lo_is;
            hi = get_or-set_same f.hi r hi nan (omega (arith, p, z.hi)) ∙ hi_is;
            fold_scale = get_or-set_same f.fold_scale r 0f nan (omega (arith, p, z.fold_scale));
            shift = get_or-set_same f.shift r 0f nan (omega (arith, p, z.shift));
            touched = ap is_one (get_or-set_same n.touched r 0 0 (omega (arith, p, z.touched))) ∙ zero_is;
            binding = unbound (get_or-set_same n.binaries r 0 0 (omega (arith, p, z.binaries)));
          }

      apart : Apart r (from M r) (upto M r) (parts_of f n) parts
      apart =
          record {
            lo = elsewhere f.lo nan r lo;
            hi = elsewhere f.hi nan r hi;
            fold_scale = elsewhere f.fold_scale nan r 0f;
            shift = elsewhere f.shift nan r 0f;
            written = untouched f.written nan;
            rewritten = untouched f.rewritten nan;
            kept = untouched f.kept nan;
            len = elsewhere n.len 0 r (e - a);
            folded = elsewhere n.folded 0 r 0;
            touched = elsewhere n.touched 0 r 0;
            binaries = elsewhere n.binaries 0 r 0;
            coeffs = rw (← a_is, ← e_is) h.other_coeffs;
            vars = rw (← a_is, ← e_is) h.other_vars;
            binary = outside n.binary 0;
          }

      alive_now : is_one (get_or (set n.alive r 1) r 0) ≡ (as_written M r).alive
      unfolding as_written
      alive_now = ap is_one (get_or-set_same n.alive r 1 0 (omega (arith, p, z.alive))) ∙ one_is

    pub as_written_end : {f₂ : Floats} {n₂ : Numbers} → f₂ ≡ sides_put r lo hi f₁ → n₂ ≡ marks_put r (e - a) n₁ → WritesRow (Written rows) s r f n f₂ n₂ (λ M. as_written M r)
    as_written_end ef en =
        record {
          does = λ M k c. rw (ef, en, h.floats, h.numbers)
              (record {
                alive = alive_now M k c;
                now = λ _. shown M k c;
                alive_other = elsewhere n.alive 0 r 1;
                other = λ q y lq ne g. other_shown c lq (l M k c) ne (apart M k c) g;
                wlo = refl;
                whi = refl;
                elo = refl;
                ehi = refl;
                dirty = refl;
                coeff_dirty = refl;
                queued = refl;
                queue = refl;
                tally = refl;
                wave = refl;
              });
        }
