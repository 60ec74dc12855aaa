-- `rewrite_binding`: a binary that is there already, and one that is added.
use Rattle.std.specs.Prelude.{ℕ, zero, suc, ◌+◌, ◌<◌, ◌≡◌, Bool, true, false, not, ◌&&◌, ◌||◌, List, [], ◌∷◌, ◌++◌, eqb, length, get_or, Float}
use Rattle.std.proofs.Common.{arith, sym, ◌∙◌, subst, length-append}
use Rattle.std.proofs.Math.Path.{refl, ap}
use Rattle.std.proofs.Math.Option.{Option, none, some}
use Rattle.std.specs.Float.{nan}
use Rattle.std.specs.Float.Ieee.{eq}
use Rattle.floats.specs.Num.{choose, ◌⊕◌, ◌⊖◌, ◌⊗◌, 0f, abs, maxf}
use Rattle.tolerances.specs.Tol.{Term, at}
use Rattle.definition.specs.Model.{Model, Row, Binding, with_binding, rhs_mag, coeff_of}
use Rattle.definition.specs.Work.{Work, with_row, no_term, has}
use Rattle.definition.specs.Folds.{fixed_besides_from, fixed_besides, rewrite_room}
use Rattle.definition.specs.Bindings.{sum_coeffs, taken, rewrite_binding, growth}
use Rattle.space.specs.declared.Context.{Context}
use Rattle.space.specs.Store.{Floats, Numbers}
use Rattle.view.specs.Call.{Call}
use Rattle.view.specs.Shows.{Shows, Parts, BindingShown, unbound, is_bound}
use Rattle.view.specs.Inv.{Inv, has_nonzero, BinariesIn, binaries_in[], BindingIn, none_in, some_in}
use Rattle.view.specs.Acts.{Ready, Acts, Reads}
use Rattle.view.specs.Known.{Spans}
use Rattle.view.specs.Lists.{yes, no}
use Rattle.readers.specs.Reading.{row_of, Alive}
use Rattle.readers.specs.RowAt.{row_alive, row_shown, row_inv, row_at, row_ready}
use Rattle.folds.specs.Written.{eqb_same}
use Rattle.folds.specs.Counting.{true_false}
use Rattle.folds.specs.Besides.{binaries_of}
use Rattle.folds.specs.Stands.{TellsN, stands_in}
use Rattle.coeffs.specs.Keeping.{taken_in, binaries_by, binaries_snoc}
use Rattle.tighten.specs.Pigeonhole.{binary_more_fits}
use Rattle.tighten.specs.Staying.{StaysAlive, shown_stays, acts_again, reads_again}
use Rattle.tighten.specs.Settling.{kept_of, settled_with, settled_by, settled, settled_growth}
use Rattle.tighten.specs.Adding.{added_to, with_binary, BinaryRoom}

-- ---- what is looked at of the row and of the state: the row's terms and its shift, and the emitted lower bounds
sum_bound : (o : Option Binding) (x : Row) (s : Float) (vs : List ℕ) → sum_coeffs (with_binding o x) s vs ≡ sum_coeffs x s vs
unfolding sum_coeffs coeff_of
sum_bound o x s [] = refl
sum_bound o x s (v ∷ vs) = sum_bound o x (s ⊕ abs (coeff_of x v)) vs

besides_from : (r : ℕ) (y : Row) (w : Work) (bs : List ℕ) (s : Float) (ts : List Term) → fixed_besides_from (with_row r y w) bs s ts ≡ fixed_besides_from w bs s ts
unfolding fixed_besides_from
besides_from r y w bs s [] = refl
besides_from r y w bs s (t ∷ ts) = besides_from r y w bs (choose (has t.var bs) s (s ⊕ abs (t.coeff ⊗ at w.elo t.var))) ts

pub besides_row : (r : ℕ) (y : Row) (w : Work) (x : Row) (bs : List ℕ) → fixed_besides (with_row r y w) x bs ≡ fixed_besides w x bs
unfolding fixed_besides
besides_row r y w x bs = besides_from r y w bs 0f x.folded

besides_bound : (o : Option Binding) (w : Work) (x : Row) (bs : List ℕ) → fixed_besides w (with_binding o x) bs ≡ fixed_besides w x bs
unfolding fixed_besides
besides_bound o w x bs = refl

mag_bound : (o : Option Binding) (x : Row) (b : Float) → rhs_mag (with_binding o x) b ≡ rhs_mag x b
unfolding rhs_mag
mag_bound o x b = refl

-- ---- rewrite_binding, its binaries and its magnitude as written being told
abbrev rebuilt : Model → Work → Float → Row → List ℕ → Float → Float → Binding
rebuilt M w bp x bins wr kept =
    record {
      binaries = bins;
      written = wr;
      rewritten = rhs_mag x bp ⊕ sum_coeffs x 0f bins;
      kept = maxf (rewrite_room M wr (rhs_mag x bp ⊕ sum_coeffs x 0f bins) (fixed_besides w x bins)) kept;
    }

taken_binaries : (mag : Float) (o : Option Binding) → (taken mag o).binaries ≡ binaries_of o
unfolding taken
taken_binaries mag none = refl
taken_binaries mag (some b) = refl

taken_kept : (mag : Float) (o : Option Binding) → (taken mag o).kept ≡ kept_of o
unfolding taken
taken_kept mag none = refl
taken_kept mag (some b) = refl

module _ (M : Model) (w : Work) (x : Row) (v : ℕ) (a b bp : Float) where
  abbrev old : Binding
  old = taken (rhs_mag x b) x.binding

  rebuilt_is : rewrite_binding M w x v a b bp
      ≡ rebuilt M w bp x (choose (has v old.binaries) old.binaries (old.binaries ++ (v ∷ []))) (choose (has v old.binaries) old.written (old.written ⊕ abs a)) old.kept
  unfolding rewrite_binding
  rebuilt_is = refl

  rewrite_there : has v old.binaries ≡ true → rewrite_binding M w x v a b bp ≡ settled_with M w bp x old
  rewrite_there e =
      rebuilt_is ∙ ap (λ (vs : List ℕ). rebuilt M w bp x vs (choose (has v old.binaries) old.written (old.written ⊕ abs a)) old.kept) (yes _ _ e)
      ∙ ap (λ (y : Float). rebuilt M w bp x old.binaries y old.kept) (yes _ _ e)

  rewrite_new : has v old.binaries ≡ false → rewrite_binding M w x v a b bp ≡ rebuilt M w bp x (old.binaries ++ (v ∷ [])) (old.written ⊕ abs a) old.kept
  rewrite_new e =
      rebuilt_is ∙ ap (λ (vs : List ℕ). rebuilt M w bp x vs (choose (has v old.binaries) old.written (old.written ⊕ abs a)) old.kept) (no _ _ e)
      ∙ ap (λ (y : Float). rebuilt M w bp x (old.binaries ++ (v ∷ [])) y old.kept) (no _ _ e)

  growth_is : growth M b x (rewrite_binding M w x v a b bp) ≡ (rewrite_binding M w x v a b bp).kept ⊖ kept_of x.binding
  unfolding growth
  growth_is = ap (λ (y : Float). (rewrite_binding M w x v a b bp).kept ⊖ y) (taken_kept (rhs_mag x b) x.binding)

  -- a row that has v among its binaries has a binding
  there_some : (o : Option Binding) → has v (binaries_of o) ≡ true → settled_by M w bp x o ≡ some (settled_with M w bp x (taken (rhs_mag x b) o))
  unfolding taken has
  there_some none e = true_false (sym e)
  there_some (some y) e = refl

  module _ (e : has v (binaries_of x.binding) ≡ true) where
    pub settled_there : settled_by M w bp x x.binding ≡ some (rewrite_binding M w x v a b bp)
    settled_there = there_some x.binding e ∙ ap (λ (y : Binding). some y) (sym (rewrite_there (ap (has v) (taken_binaries (rhs_mag x b) x.binding) ∙ e)))

    pub growth_there : settled_growth M w bp x ≡ growth M b x (rewrite_binding M w x v a b bp)
    growth_there = ap (λ (o : Option Binding). kept_of o ⊖ kept_of x.binding) settled_there ∙ sym growth_is

  -- the row with v added, in the state with that row
  module _ (r : ℕ) (re : Float) (e : has v (binaries_of x.binding) ≡ false) where
    abbrev x₁ : Row
    x₁ = with_binary v a b re x

    abbrev w₁ : Work
    w₁ = with_row r x₁ w

    rebuilt_same : (bins : List ℕ) (wr kept : Float) → rebuilt M w₁ bp x₁ bins wr kept ≡ rebuilt M w bp x bins wr kept
    rebuilt_same bins wr kept =
        let y = x₁.binding in
        let g : rhs_mag x₁ bp ⊕ sum_coeffs x₁ 0f bins ≡ rhs_mag x bp ⊕ sum_coeffs x 0f bins = ap (λ (m : Float). m ⊕ sum_coeffs x₁ 0f bins) (mag_bound y x bp) ∙ ap
        (λ (m : Float). rhs_mag x bp ⊕ m) (sum_bound y x 0f bins) in
        let k : fixed_besides w₁ x₁ bins ≡ fixed_besides w x bins = besides_row r x₁ w x₁ bins ∙ besides_bound y w x bins in
        λ m. record { binaries = bins; written = wr; rewritten = g m; kept = maxf (rewrite_room M wr (g m) (k m)) kept }

    with_new : settled_with M w₁ bp x₁ (added_to v a re old) ≡ rewrite_binding M w x v a b bp
    with_new = rebuilt_same (old.binaries ++ (v ∷ [])) (old.written ⊕ abs a) old.kept ∙ sym (rewrite_new (ap (has v) (taken_binaries (rhs_mag x b) x.binding) ∙ e))

    pub settled_new : settled M w₁ bp x₁ ≡ with_binding (some (rewrite_binding M w x v a b bp)) x
    settled_new = ap (λ (y : Binding). with_binding (some y) x) with_new

    pub growth_new : settled_growth M w₁ bp x₁ ≡ growth M b x (rewrite_binding M w x v a b bp)
    growth_new = ap (λ (y : Binding). y.kept ⊖ old.kept) with_new ∙ ap (λ (y : Float). (rewrite_binding M w x v a b bp).kept ⊖ y) (taken_kept (rhs_mag x b) x.binding) ∙ sym growth_is

-- ---- v is a live term of row r, with a coefficient that is not zero
pub record LiveAt (ss : List ℕ) (f : Floats) (n : Numbers) (r v : ℕ) : Type 0 where
  pub place : ℕ
  pub live : place < get_or n.len r 0
  pub var : get_or n.vars (get_or ss r 0 + place) 0 ≡ v
  pub nonzero : eq (get_or f.coeffs (get_or ss r 0 + place) nan) 0f ≡ false

nonzero_at : (v : ℕ) (ts us : List Term) (i : ℕ) → i < length ts → (get_or ts i no_term).var ≡ v → eq (get_or ts i no_term).coeff 0f ≡ false → has_nonzero v (ts ++ us) ≡ true
unfolding has_nonzero
nonzero_at v [] us i p e z = absurd (omega arith)
nonzero_at v (t ∷ ts) us zero p e z = rw (z, eqb_same t.var v e) refl
nonzero_at v (t ∷ ts) us (suc i) p e z = later (eqb t.var v && not (eq t.coeff 0f)) (nonzero_at v ts us i (omega arith) e z)
  where
    later : (a : Bool) {b : Bool} → b ≡ true → (a || b) ≡ true
    later true e = refl
    later false e = e

module _ {ss : List ℕ} {s : Context} {f : Floats} {n : Numbers} {r v : ℕ} (p : r < s.rows) (al : Alive n r) (L : LiveAt ss f n r v) where
  live_nonzero : {M : Model} {o : List ℕ} {k : ℕ} {w : Work} → Spans ss M → Call M s → Shows M f n o w → Inv M k w → has_nonzero v ((row_of w r).terms ++ (row_of w r).folded) ≡ true
  live_nonzero {w = w} q c h i =
      let y = row_at c h p al i q in
      let l : L.place < length (row_of w r).terms = omega (arith, L.live, y.len) in
      let t = y.terms L.place l in
      nonzero_at v (row_of w r).terms (row_of w r).folded L.place l (sym t.var ∙ L.var) (ap (λ (z : Float). eq z 0f) (sym t.coeff) ∙ L.nonzero)

-- ---- how many binaries there are
count_of : {M : Model} {p : Parts} {r : ℕ} {o : Option Binding} → BindingShown M p r o → get_or p.binaries r 0 ≡ length (binaries_of o)
count_of (unbound e) = e
count_of (is_bound h) = h.count

some_has : (v : ℕ) (vs : List ℕ) → has v vs ≡ true → 0 < length vs
unfolding has
some_has v [] e = true_false (sym e)
some_has v (u ∷ vs) e = omega arith

binaries_in : {M : Model} {r : ℕ} {x : Row} {o : Option Binding} → BindingIn M r x o → BinariesIn M r x (binaries_of o)
binaries_in none_in = binaries_in[]
binaries_in (some_in b) = b

abbrev pub rebound : ℕ → ℕ → Float → Float → Float → Model → Work → Row
rebound r v a b bp M w = with_binding (some (rewrite_binding M w (row_of w r) v a b bp)) (row_of w r)

abbrev pub rebound_growth : ℕ → ℕ → Float → Float → Float → Model → Work → Float
rebound_growth r v a b bp M w = growth M b (row_of w r) (rewrite_binding M w (row_of w r) v a b bp)

module _ {ss : List ℕ} {s : Context} {f : Floats} {n : Numbers} {r : ℕ} (v : ℕ) (p : r < s.rows) (al : Alive n r) {z : Bool}
    (t : TellsN (Spans ss) s r n z (λ M w x. has v (binaries_of x.binding))) where
  has_is : {M : Model} {o : List ℕ} {w : Work} → Spans ss M → Call M s → Shows M f n o w → has v (binaries_of (row_of w r).binding) ≡ z
  has_is {M} {o} {w} q c h = t.tells f M w (row_of w r) q c (stands_in c p al h)

  -- v is there already
  module _ (e : z ≡ true) where
    pub there_bound : Ready (Spans ss) s f n → 0 < get_or n.binaries r 0
    there_bound R = omega (arith, some_has v _ (has_is R.known R.call R.shows ∙ e), count_of (row_shown R.call R.shows p al).binding)

    module _ (a b bp : Float) where
      pub there_acts : {f₁ : Floats} → Acts (Spans ss) s f n f₁ n (λ M w. with_row r (settled M w bp (row_of w r)) w) → Acts (Spans ss) s f n f₁ n (λ M w. with_row r (rebound r v a b bp M w) w)
      there_acts {f₁} A =
          record {
            does = λ M o k w q c h i.
                subst (λ (y : Option Binding). Shows M f₁ n o (with_row r (with_binding y (row_of w r)) w)) (settled_there M w (row_of w r) v a b bp (has_is q c h ∙ e)) (A.does M o k w q c h i);
          }

      pub there_growth : {g : Float} → Reads (Spans ss) s f n g (λ M w. settled_growth M w bp (row_of w r)) → Reads (Spans ss) s f n g (rebound_growth r v a b bp)
      there_growth T = record { reads = λ M o k w q c h i. sym (growth_there M w (row_of w r) v a b bp (has_is q c h ∙ e)) ∙ T.reads M o k w q c h i }

  -- v is added
  module _ (L : LiveAt ss f n r v) (e : z ≡ false) where
    pub new_room : Ready (Spans ss) s f n → BinaryRoom ss s n r
    new_room R =
        let y = row_ready R (λ M q. q) p al in
        let x = row_of R.work r in
        let i = row_inv R.call R.shows p al R.inv in
        let l = binary_more_fits v (binaries_in i.binaries) (has_is R.known R.call R.shows ∙ e) (live_nonzero p al L R.known R.call R.shows R.inv) in
        record {
          long = y.long;
          room = omega (arith, l, count_of (row_shown R.call R.shows p al).binding, y.fits);
          last = y.last;
          small = y.small;
        }

    module _ (a b re : Float) where
      pub new_stays : StaysAlive (Spans ss) s f n r (λ M w. with_binary v a b re (row_of w r))
      new_stays =
          record {
            alive = λ M o k w q c h i. row_alive c h p al;
            inv = λ M o k w q c h i.
                let x = row_of w r in
                let y = row_inv c h p al i in
                let g : has v (taken (rhs_mag x b) x.binding).binaries ≡ false = ap (has v) (taken_binaries (rhs_mag x b) x.binding) ∙ has_is q c h ∙ e in
                record {
                  distinct = y.distinct;
                  all_in = y.all_in;
                  binaries = some_in (binaries_by {x = x} (λ u m. m) (binaries_snoc v (taken_in (rhs_mag x b) y.binaries) g (live_nonzero p al L q c h i)));
                };
          }

      -- f₁ and n₁ have the binary, f₂ the sums too
      module _ {f₁ : Floats} {n₁ : Numbers} (A : Acts (Spans ss) s f n f₁ n₁ (λ M w. with_row r (with_binary v a b re (row_of w r)) w)) where
        pub new_bound : Ready (Spans ss) s f n → 0 < get_or n₁.binaries r 0
        new_bound R =
            let l = length-append (taken (rhs_mag (row_of R.work r) b) (row_of R.work r).binding).binaries (v ∷ []) in
            omega (arith, l, count_of (shown_stays p A new_stays R).binding)

        module _ (bp : Float) where
          pub new_acts : {f₂ : Floats} → Acts (Spans ss) s f₁ n₁ f₂ n₁ (λ M w. with_row r (settled M w bp (row_of w r)) w) → Acts (Spans ss) s f n f₂ n₁ (λ M w. with_row r (rebound r v a b bp M w) w)
          new_acts B = acts_again p A new_stays (λ M w x. settled M w bp x) B (λ M o k w q c h i. settled_new M w (row_of w r) v a b bp r re (has_is q c h ∙ e))

          pub new_growth : {g : Float} → Reads (Spans ss) s f₁ n₁ g (λ M w. settled_growth M w bp (row_of w r)) → Reads (Spans ss) s f n g (rebound_growth r v a b bp)
          new_growth T = reads_again p A new_stays (λ M w x. settled_growth M w bp x) T (λ M o k w q c h i. growth_new M w (row_of w r) v a b bp r re (has_is q c h ∙ e))
