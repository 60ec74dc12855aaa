-- `row_after`: the new coefficient first, then the binding, then the bound.
use Rattle.std.specs.Prelude.{ℕ, ◌+◌, ◌≤◌, ◌<◌, ◌≡◌, refl, true, false, List, [], ◌∷◌, ◌++◌, length, get_or, Float, Option, None, Some}
use Rattle.std.proofs.Common.{arith, ap, sym, ◌∙◌, subst, get_or-set_same}
use Rattle.std.proofs.Math.Option.{some}
use Rattle.std.specs.Float.{nan}
use Rattle.std.specs.Float.Ieee.{eq}
use Rattle.floats.specs.Num.{choose, ◌⊕◌, ◌⊖◌, 0f, abs, maxf}
use Rattle.tolerances.specs.Tol.{Term, term}
use Rattle.definition.specs.Model.{Model, Row, Binding, with_range, with_binding, rhs_mag}
use Rattle.definition.specs.Work.{Work, with_row, no_term, has}
use Rattle.definition.specs.Folds.{rewrite_room}
use Rattle.definition.specs.Bindings.{sum_coeffs, taken, rewrite_binding, growth}
use Rattle.definition.specs.Rewrites.{Form, le_form, ge_form, no_form, Rewrite, keeps, coeff_only, coeff_bound}
use Rattle.definition.specs.Tighten.{set_coeff, rebound_row, row_after}
use Rattle.formulas.specs.declared.Form as forms
use Rattle.formulas.specs.declared.Form.TheVariants.{Le, Ge}
use Rattle.formulas.specs.declared.Rewrite as rewrites
use Rattle.formulas.specs.declared.Rebound.{Rebound}
use Rattle.formulas.specs.Rewriting.{form_is, maybe_form, bound_is, rewrite_is, maybe_rewrite}
use Rattle.space.specs.declared.Context.{Context}
use Rattle.space.specs.Store.{Floats, Numbers, put_lo, put_hi, put_coeffs}
use Rattle.view.specs.Call.{Call}
use Rattle.view.specs.Shows.{Shows}
use Rattle.view.specs.Inv.{Inv, RowInv}
use Rattle.view.specs.Acts.{Ready, Acts, Reads}
use Rattle.view.specs.Known.{Spans}
use Rattle.view.specs.Rows.{inv_row}
use Rattle.readers.specs.Reading.{row_of, Alive}
use Rattle.readers.specs.RowAt.{row_alive, row_shown, row_inv, row_ready, live_place}
use Rattle.folds.specs.Stands.{one_none, turns_acts}
use Rattle.folds.specs.Relaxing.{lo_one, hi_one}
use Rattle.coeffs.specs.Keeping.{Nonzero, nonzero_bound, set_inv, rebind_inv, after_inv}
use Rattle.tighten.specs.Staying.{StaysAlive, alive_stays, acts_again, reads_again}
use Rattle.tighten.specs.Stores.{coeff_one}
use Rattle.tighten.specs.Adding.{from_is}
use Rattle.tighten.specs.Rebinding.{besides_row, LiveAt, rebound, rebound_growth}

-- ---- set_coeff
set_alive : (i v : ℕ) (y : Float) (x : Row) → (set_coeff i v y x).alive ≡ x.alive
unfolding set_coeff
set_alive i v y x = refl

-- the live term at place i of row r is v's
pub record TermOfVar (ss : List ℕ) (s : Context) (n : Numbers) (r i v : ℕ) : Type 0 where
  pub row : r < s.rows
  pub alive : Alive n r
  pub live : i < get_or n.len r 0
  pub var : v ≡ get_or n.vars (get_or ss r 0 + i) 0

module _ {ss : List ℕ} {s : Context} {f : Floats} {n : Numbers} {r i v : ℕ} (D : TermOfVar ss s n r i v) where
  term_in : {M : Model} {o : List ℕ} {w : Work} → Call M s → Shows M f n o w → i < length (row_of w r).terms
  term_in c h = omega (arith, D.live, (row_shown c h D.row D.alive).len)

  term_var : {M : Model} {o : List ℕ} {w : Work} → Spans ss M → Call M s → Shows M f n o w → v ≡ (get_or (row_of w r).terms i no_term).var
  term_var {M} q c h = D.var ∙ ap (λ (m : ℕ). get_or n.vars (m + i) 0) (sym (from_is M r q.starts)) ∙ ((row_shown c h D.row D.alive).terms i (term_in c h)).var

  -- where it stands
  pub set_place : Ready (Spans ss) s f n → (r < length ss) × (get_or ss r 0 + i < s.terms) × (s.terms ≤ 65536)
  set_place R =
      let x = row_ready R (λ M q. q) D.row D.alive in
      (omega (arith, x.long), live_place R (λ M q. q) D.row D.alive D.live, x.small)

  module _ (y : Float) where
    pub set_acts : {f₁ : Floats} → length f.coeffs ≡ s.terms → f₁ ≡ put_coeffs (get_or ss r 0 + i) y f → Acts (Spans ss) s f n f₁ n (λ M w. with_row r (set_coeff i v y (row_of w r)) w)
    set_acts {f₁} lc e =
        turns_acts
        {F = λ M w x. set_coeff i v y x}
        D.row D.alive
        (record {
          does = λ M w x q c h.
              let a = sym (from_is M r q.starts) in
              let l : i < length x.terms = omega (arith, D.live, h.shown.len) in
              coeff_one c (omega (arith, D.row, c.rows)) h v y a l (D.var ∙ ap (λ (m : ℕ). get_or n.vars (m + i) 0) a ∙ (h.shown.terms i l).var) lc e;
        })

    module _ (z : eq y 0f ≡ false) where
      pub set_stays : StaysAlive (Spans ss) s f n r (λ M w. set_coeff i v y (row_of w r))
      set_stays =
          record {
            alive = λ M o k w q c h j. set_alive i v y (row_of w r) ∙ row_alive c h D.row D.alive;
            inv = λ M o k w q c h j. set_inv (row_of w r) i v y (term_in c h) (term_var q c h) z (row_inv c h D.row D.alive j);
          }

      pub set_live : {f₁ : Floats} → Ready (Spans ss) s f n → length f.coeffs ≡ s.terms → f₁ ≡ put_coeffs (get_or ss r 0 + i) y f → LiveAt ss f₁ n r v
      set_live R lc e =
          let l = live_place R (λ M q. q) D.row D.alive D.live in
          record {
            place = i;
            live = D.live;
            var = sym D.var;
            nonzero = ap (λ (g : Floats). eq (get_or g.coeffs (get_or ss r 0 + i) nan) 0f) e ∙ ap
                (λ (u : Float). eq u 0f) (get_or-set_same f.coeffs (get_or ss r 0 + i) y nan (omega (arith, l, lc))) ∙ z;
          }

-- ---- rebound_row
-- rewrite_binding looks at no row of the state
rewrite_row : (M : Model) (r : ℕ) (y : Row) (w : Work) (x : Row) (v : ℕ) (a b bp : Float) → rewrite_binding M (with_row r y w) x v a b bp ≡ rewrite_binding M w x v a b bp
unfolding rewrite_binding
rewrite_row M r y w x v a b bp =
    let wr = choose (has v (taken (rhs_mag x b) x.binding).binaries) (taken (rhs_mag x b) x.binding).written ((taken (rhs_mag x b) x.binding).written ⊕ abs a) in
    let bins = choose (has v (taken (rhs_mag x b) x.binding).binaries) (taken (rhs_mag x b) x.binding).binaries ((taken (rhs_mag x b) x.binding).binaries ++ (v ∷ [])) in
    let re = rhs_mag x bp ⊕ sum_coeffs x 0f bins in
    λ m. record { binaries = bins; written = wr; rewritten = re; kept = maxf (rewrite_room M wr re (besides_row r y w x bins m)) (taken (rhs_mag x b) x.binding).kept }

-- x is the row with the new coefficient and binding
abbrev pub both_of : ℕ → ℕ → Float → Float → Float → Float → Model → Work → Row → Row
both_of i v a na b bp M w x = with_binding (some (rewrite_binding M w (set_coeff i v na x) v a b bp)) (set_coeff i v na x)

-- what grows, by the row as it was
growth_set : (M : Model) (i v : ℕ) (na b : Float) (x : Row) (d : Binding) → growth M b (set_coeff i v na x) d ≡ growth M b x d
unfolding growth set_coeff rhs_mag
growth_set M i v na b x d = refl

module _ (M : Model) (w : Work) (x : Row) (i v : ℕ) (a na bp : Float) {b grown : Float} (eg : growth M b (set_coeff i v na x) (rewrite_binding M w (set_coeff i v na x) v a b bp) ≡ grown) where
  le_row : (b₁ : Float) → b ≡ b₁ → with_range x.lo (bp ⊕ grown) (both_of i v a na b bp M w x)
      ≡ with_binding (some (rewrite_binding M w (set_coeff i v na x) v a b₁ bp))
      (with_range x.lo (bp ⊕ growth M b₁ x (rewrite_binding M w (set_coeff i v na x) v a b₁ bp)) (set_coeff i v na x))
  le_row b₁ e =
      ap (λ (u : Float). with_range x.lo (bp ⊕ u) (both_of i v a na b bp M w x)) (sym eg ∙ growth_set M i v na b x (rewrite_binding M w (set_coeff i v na x) v a b bp))
      ∙ ap (λ (u : Float). with_binding (some (rewrite_binding M w (set_coeff i v na x) v a u bp))
      (with_range x.lo (bp ⊕ growth M u x (rewrite_binding M w (set_coeff i v na x) v a u bp)) (set_coeff i v na x))) e

  ge_row : (b₁ : Float) → b ≡ b₁ → with_range (bp ⊖ grown) x.hi (both_of i v a na b bp M w x)
      ≡ with_binding (some (rewrite_binding M w (set_coeff i v na x) v a b₁ bp)) (with_range (bp ⊖ growth M b₁ x (rewrite_binding M w (set_coeff i v na x) v a b₁ bp))
      x.hi (set_coeff i v na x))
  ge_row b₁ e =
      ap (λ (u : Float). with_range (bp ⊖ u) x.hi (both_of i v a na b bp M w x)) (sym eg ∙ growth_set M i v na b x (rewrite_binding M w (set_coeff i v na x) v a b bp))
      ∙ ap (λ (u : Float). with_binding (some (rewrite_binding M w (set_coeff i v na x) v a u bp))
      (with_range (bp ⊖ growth M u x (rewrite_binding M w (set_coeff i v na x) v a u bp)) x.hi (set_coeff i v na x))) e

  pub le_is : b ≡ x.hi → with_range (both_of i v a na b bp M w x).lo (bp ⊕ grown) (both_of i v a na b bp M w x) ≡ rebound_row M le_form w x i v a na bp
  unfolding rebound_row set_coeff
  le_is e = le_row x.hi e

  pub ge_is : b ≡ x.lo → with_range (bp ⊖ grown) (both_of i v a na b bp M w x).hi (both_of i v a na b bp M w x) ≡ rebound_row M ge_form w x i v a na bp
  unfolding rebound_row set_coeff
  ge_is e = ge_row x.lo e

-- a row that is left alone
pub same_acts : {P : Model → Type 0} {s : Context} {f : Floats} {n : Numbers} {r : ℕ} → r < s.rows → Alive n r → Acts P s f n f n (λ M w. with_row r (row_of w r) w)
same_acts p al = turns_acts {F = λ M w x. x} p al (record { does = λ M w x q c h. one_none h })

-- f₁ has the coefficient, f₂ and n₂ the binding, f₃ the bound
module _ {ss : List ℕ} {s : Context} {f : Floats} {n : Numbers} {r i v : ℕ} (a na b bp : Float) (D : TermOfVar ss s n r i v) (z : eq na 0f ≡ false)
    (R : Ready (Spans ss) s f n) (lc : length f.coeffs ≡ s.terms) {f₁ f₂ : Floats} {n₂ : Numbers} (e₁ : f₁ ≡ put_coeffs (get_or ss r 0 + i) na f)
    {grown : Float} (A : Acts (Spans ss) s f₁ n f₂ n₂ (λ M w. with_row r (rebound r v a b bp M w) w)) (T : Reads (Spans ss) s f₁ n grown (rebound_growth r v a b bp)) where
  both_acts : Acts (Spans ss) s f n f₂ n₂ (λ M w. with_row r (both_of i v a na b bp M w (row_of w r)) w)
  both_acts =
      acts_again D.row (set_acts D na lc e₁) (set_stays D na z) (λ M w x. with_binding (some (rewrite_binding M w x v a b bp)) x) A
      (λ M o k w q c h j.
      let x = set_coeff i v na (row_of w r) in
      ap (λ (y : Binding). with_binding (some y) x) (rewrite_row M r x w x v a b bp))

  both_growth : Reads (Spans ss) s f n grown (λ M w. growth M b (set_coeff i v na (row_of w r)) (rewrite_binding M w (set_coeff i v na (row_of w r)) v a b bp))
  both_growth =
      reads_again D.row (set_acts D na lc e₁) (set_stays D na z) (λ M w x. growth M b x (rewrite_binding M w x v a b bp)) T
      (λ M o k w q c h j.
      let x = set_coeff i v na (row_of w r) in
      ap (growth M b x) (rewrite_row M r x w x v a b bp))

  both_inv : (M : Model) (w : Work) → i < length (row_of w r).terms → v ≡ (get_or (row_of w r).terms i no_term).var → RowInv M r (row_of w r) → RowInv M r (both_of i v a na b bp M w (row_of w r))
  unfolding set_coeff
  both_inv M w p e k = rebind_inv w (row_of w r) i v a na bp p e z k b (row_of w r).lo (row_of w r).hi

  both_stays : StaysAlive (Spans ss) s f n r (λ M w. both_of i v a na b bp M w (row_of w r))
  both_stays =
      record {
        alive = λ M o k w q c h j. set_alive i v na (row_of w r) ∙ row_alive c h D.row D.alive;
        inv = λ M o k w q c h j. both_inv M w (term_in D c h) (term_var D q c h) (row_inv c h D.row D.alive j);
      }

  pub le_acts : {f₃ : Floats} → length f₂.hi ≡ s.rows → b ≡ get_or f₁.hi r nan → f₃ ≡ put_hi r (bp ⊕ grown) f₂ → Acts (Spans ss) s f n f₃ n₂
      (λ M w. with_row r (rebound_row M le_form w (row_of w r) i v a na bp) w)
  le_acts l eb e₃ =
      acts_again D.row both_acts both_stays (λ M w x. with_range x.lo (bp ⊕ grown) x)
      (turns_acts {F = λ M w x. with_range x.lo (bp ⊕ grown) x} D.row (alive_stays D.row both_acts both_stays R)
      (record { does = λ M w x q c h. hi_one c (omega (arith, D.row, c.rows)) h (bp ⊕ grown) l e₃ }))
      (λ M o k w q c h j. le_is M w (row_of w r) i v a na bp (both_growth.reads M o k w q c h j) (eb ∙ ap (λ (g : Floats). get_or g.hi r nan) e₁ ∙ (row_shown c h D.row D.alive).hi))

  pub ge_acts : {f₃ : Floats} → length f₂.lo ≡ s.rows → b ≡ get_or f₁.lo r nan → f₃ ≡ put_lo r (bp ⊖ grown) f₂ → Acts (Spans ss) s f n f₃ n₂
      (λ M w. with_row r (rebound_row M ge_form w (row_of w r) i v a na bp) w)
  ge_acts l eb e₃ =
      acts_again D.row both_acts both_stays (λ M w x. with_range (bp ⊖ grown) x.hi x)
      (turns_acts {F = λ M w x. with_range (bp ⊖ grown) x.hi x} D.row (alive_stays D.row both_acts both_stays R)
      (record { does = λ M w x q c h. lo_one c (omega (arith, D.row, c.rows)) h (bp ⊖ grown) l e₃ }))
      (λ M o k w q c h j. ge_is M w (row_of w r) i v a na bp (both_growth.reads M o k w q c h j) (eb ∙ ap (λ (g : Floats). get_or g.lo r nan) e₁ ∙ (row_shown c h D.row D.alive).lo))

-- ---- by the form, and by the rewrite
abbrev pub Rebounds : (Model → Type 0) → Context → Floats → Numbers → Floats → Numbers → ℕ → ℕ → ℕ → Float → Float → Float → Form → Type 0
Rebounds P s f n f' n' r i v a na bp g = Acts P s f n f' n' (λ M w. with_row r (rebound_row M g w (row_of w r) i v a na bp) w)

rebound_row_lem : (M : Model) (w : Work) (x : Row) (i v : ℕ) (a na bp : Float) → rebound_row M no_form w x i v a na bp ≡ x
unfolding rebound_row
rebound_row_lem M w x i v a na bp = refl

module _ {P : Model → Type 0} {s : Context} {f : Floats} {n : Numbers} (r i v : ℕ) (a na bp : Float) where
  module _ {f' : Floats} {n' : Numbers} {g : forms.Form} where
    pub rebound_le : g ≡ Le → Rebounds P s f n f' n' r i v a na bp le_form → Rebounds P s f n f' n' r i v a na bp (form_is g)
    rebound_le e A = subst (λ (h : forms.Form). Rebounds P s f n f' n' r i v a na bp (form_is h)) (sym e) A

    pub rebound_ge : g ≡ Ge → Rebounds P s f n f' n' r i v a na bp ge_form → Rebounds P s f n f' n' r i v a na bp (form_is g)
    rebound_ge e A = subst (λ (h : forms.Form). Rebounds P s f n f' n' r i v a na bp (form_is h)) (sym e) A

    pub rebound_some : {o : Option forms.Form} → o ≡ Some g → Rebounds P s f n f' n' r i v a na bp (form_is g) → Rebounds P s f n f' n' r i v a na bp (maybe_form o)
    rebound_some e A = subst (λ (h : Option forms.Form). Rebounds P s f n f' n' r i v a na bp (maybe_form h)) (sym e) A

  pub rebound_none : {g : Option forms.Form} → g ≡ None → r < s.rows → Alive n r → Rebounds P s f n f n r i v a na bp (maybe_form g)
  rebound_none e p al =
      subst (λ (h : Option forms.Form). Rebounds P s f n f n r i v a na bp (maybe_form h)) (sym e)
      (record {
        does = λ M o k w q c h j. subst (λ (y : Row). Shows M f n o (with_row r y w)) (sym (rebound_row_lem M w (row_of w r) i v a na bp)) ((same_acts {P = P} p al).does M o k w q c h j);
      })

abbrev pub Afters : (Model → Type 0) → Context → Floats → Numbers → Floats → Numbers → ℕ → ℕ → ℕ → Float → Form → Rewrite → Type 0
Afters P s f n f' n' r i v a g x = Acts P s f n f' n' (λ M w. with_row r (row_after M g w (row_of w r) i (term v a) x) w)

module _ {P : Model → Type 0} {s : Context} {f : Floats} {n : Numbers} (r i v : ℕ) (a : Float) (g : Form) where
  keeps_after : r < s.rows → Alive n r → Afters P s f n f n r i v a g keeps
  unfolding row_after
  keeps_after p al = same_acts p al

  pub after_same : {x : Option rewrites.Rewrite} → x ≡ None → r < s.rows → Alive n r → Afters P s f n f n r i v a g (maybe_rewrite x)
  after_same e p al = subst (λ (y : Option rewrites.Rewrite). Afters P s f n f n r i v a g (maybe_rewrite y)) (sym e) (keeps_after p al)

  module _ {f' : Floats} {n' : Numbers} where
    coeff_after : (na : Float) → Acts P s f n f' n' (λ M w. with_row r (set_coeff i v na (row_of w r)) w) → Afters P s f n f' n' r i v a g (coeff_only na)
    unfolding row_after
    coeff_after na A = A

    bound_after : (na bp d : Float) → Rebounds P s f n f' n' r i v a na bp g → Afters P s f n f' n' r i v a g (coeff_bound na bp d)
    unfolding row_after
    bound_after na bp d A = A

    -- by whether the rewrite z moves the bound
    module _ (z : rewrites.Rewrite) where
      pub after_coeff : z.bound ≡ None → Acts P s f n f' n' (λ M w. with_row r (set_coeff i v z.coeff (row_of w r)) w) → Afters P s f n f' n' r i v a g (rewrite_is z)
      after_coeff e A = subst (λ (y : Option Rebound). Afters P s f n f' n' r i v a g (bound_is z.coeff y)) (sym e) (coeff_after z.coeff A)

      pub after_bound : {b : Rebound} → z.bound ≡ Some b → Rebounds P s f n f' n' r i v a z.coeff b.to g → Afters P s f n f' n' r i v a g (rewrite_is z)
      after_bound {b} e A = subst (λ (y : Option Rebound). Afters P s f n f' n' r i v a g (bound_is z.coeff y)) (sym e) (bound_after z.coeff b.to b.by A)

    pub after_some : {x : Option rewrites.Rewrite} {z : rewrites.Rewrite} → x ≡ Some z → Afters P s f n f' n' r i v a g (rewrite_is z) → Afters P s f n f' n' r i v a g (maybe_rewrite x)
    after_some e A = subst (λ (y : Option rewrites.Rewrite). Afters P s f n f' n' r i v a g (maybe_rewrite y)) (sym e) A

-- the coefficient that such a rewrite puts in
nonzero_of : {na bp d : Float} → Nonzero (coeff_bound na bp d) → eq na 0f ≡ false
nonzero_of (nonzero_bound z) = z

pub bound_nonzero : (z : rewrites.Rewrite) {b : Rebound} → z.bound ≡ Some b → Nonzero (rewrite_is z) → eq z.coeff 0f ≡ false
bound_nonzero z e h = nonzero_of (subst (λ (y : Option Rebound). Nonzero (bound_is z.coeff y)) e h)

pub some_nonzero : {x : Option rewrites.Rewrite} {z : rewrites.Rewrite} → x ≡ Some z → Nonzero (maybe_rewrite x) → Nonzero (rewrite_is z)
some_nonzero e h = subst (λ (y : Option rewrites.Rewrite). Nonzero (maybe_rewrite y)) e h

-- ---- what row_after keeps
pub row_after_keeps : {M : Model} {k : ℕ} {s : Context} {r : ℕ} (g : Form) (i : ℕ) (x : Rewrite) (w : Work) → Call M s → r < s.rows → (row_of w r).alive ≡ true
    → i < length (row_of w r).terms → Nonzero x → Inv M k w
    → Inv M k (with_row r (row_after M g w (row_of w r) i (get_or (row_of w r).terms i no_term) x) w)
row_after_keeps {r = r} g i x w c p al l z j = inv_row r _ w j (λ _. after_inv g w (row_of w r) i x l z (j.rows r (omega (arith, p, c.rows)) al))

rebound_alive : (M : Model) (g : Form) (w : Work) (x : Row) (i v : ℕ) (a na bp : Float) → (rebound_row M g w x i v a na bp).alive ≡ x.alive
unfolding rebound_row set_coeff
rebound_alive M le_form w x i v a na bp = refl
rebound_alive M ge_form w x i v a na bp = refl
rebound_alive M no_form w x i v a na bp = refl

pub after_alive : (M : Model) (g : Form) (w : Work) (x : Row) (i : ℕ) (t : Term) (y : Rewrite) → (row_after M g w x i t y).alive ≡ x.alive
unfolding row_after
after_alive M g w x i t keeps = refl
after_alive M g w x i t (coeff_only na) = set_alive i t.var na x
after_alive M g w x i t (coeff_bound na bp d) = rebound_alive M g w x i t.var t.coeff na bp
