-- A row's rewriting: which rows the step looks at, by their marks and their one finite side, and that all of it keeps the invariant.
use Rattle.std.specs.Prelude.{ℕ, ◌<◌, ◌≡◌, refl, Bool, true, false, ◌&&◌, ◌||◌, List, length, get_or, Float}
use Rattle.std.proofs.Common.{arith, sym, ◌∙◌, subst}
use Rattle.std.proofs.Math.Path.{ap}
use Rattle.floats.specs.Num.{choose}
use Rattle.definition.specs.declared.Activity.{Activity}
use Rattle.definition.specs.Model.{Model, Row}
use Rattle.definition.specs.Work.{Work}
use Rattle.definition.specs.Activities.{activity}
use Rattle.definition.specs.Rewrites.{Form, le_form, ge_form, no_form, form_of, vacuous_room}
use Rattle.definition.specs.Tighten.{Rewriting, eligible, rewrite_loop, spared, tighten_form, tighten_by, tighten_row}
use Rattle.definition.specs.Choices.{and_left, and_false}
use Rattle.formulas.specs.declared.Form as forms
use Rattle.formulas.specs.declared.Form.TheVariants.{Le, Ge}
use Rattle.formulas.specs.declared.Limits.{Limits}
use Rattle.formulas.specs.Bare.{bare, ByParams, form_of_of, vacuous_room_of}
use Rattle.formulas.specs.Rewriting.{form_is, spared_at, spared_of}
use Rattle.space.specs.declared.Context.{Context}
use Rattle.space.specs.Store.{Floats, Numbers, put_coeff_dirty}
use Rattle.view.specs.declared.Lists.{Lists}
use Rattle.view.specs.Call.{Call}
use Rattle.view.specs.Shows.{is_one, Shows}
use Rattle.view.specs.Inv.{Inv}
use Rattle.view.specs.Lists.{yes, no, either, one_is, one_not, get_d_map, length_map}
use Rattle.view.specs.Acts.{Ready, Reads, of_numbers, ready_after}
use Rattle.view.specs.Changes.{ActsBool, KeepsBool}
use Rattle.view.specs.Known.{Spans}
use Rattle.readers.specs.Reading.{row_of, Alive}
use Rattle.readers.specs.Limits.{ReadsLimits}
use Rattle.readers.specs.RowAt.{row_shown}
use Rattle.coeffs.specs.Eligible.{Binaries, count_all}
use Rattle.tighten.specs.Over.{choose_map, closed, loop_changed}
use Rattle.tighten.specs.Carried.{begun}
use Rattle.tighten.specs.Tightening.{Tightening, tightening_spans, tightening_binaries}
use Rattle.tighten.specs.Counted.{inv_looked, looked, looked_acts, looked_keeps}
use Rattle.tighten.specs.Keeping.{good_shown, loop_good}
use Rattle.tighten.specs.Loop.{loop_at}

-- F is G in whatever state the slices show
module _ {P : Model → Type 0} {s : Context} {f f' : Floats} {n n' : Numbers} {z : Bool} (F : Model → Work → Work × Bool) (G : Model → Work → Work × Bool) where
  bool_same : ((M : Model) (o : List ℕ) (k : ℕ) (w : Work) → P M → Call M s → Shows M f n o w → Inv M k w → F M w ≡ G M w) → ActsBool P s f n f' n' z G → ActsBool P s f n f' n' z F
  bool_same e a =
      record {
        does = λ M o k w p c h i. subst (λ (y : Work × Bool). Shows M f' n' o y.0) (sym (e M o k w p c h i)) (a.does M o k w p c h i);
        says = λ M o k w p c h i. ap (λ (y : Work × Bool). y.1) (e M o k w p c h i) ∙ a.says M o k w p c h i;
      }

bool_none : {P : Model → Type 0} {s : Context} {f : Floats} {n : Numbers} {z : Bool} → ActsBool P s f n f n z (λ M w. (w, z))
bool_none = record { does = λ M o k w p c h i. h; says = λ M o k w p c h i. refl }

-- ---- tighten_form: the row's activity, the room of its vacuous branch, how many terms are eligible, and whether it is left alone
module _ (M : Model) (form : Form) (r : ℕ) (w : Work) where
  abbrev rewritten_as : Activity → Float → Bool → Work × Bool
  rewritten_as act nz b = choose b (w, false) (loop_at form nz r (begun act false) M w)

  form_is_lem : (act : Activity) (nz : Float) (k : ℕ) (b : Bool) → activity M w (row_of w r) true ≡ act → vacuous_room form (row_of w r) act ≡ nz
      → eligible M form nz w (row_of w r) act (row_of w r).terms 0 ≡ k → spared M (row_of w r) k ≡ b
      → tighten_form M form r (row_of w r) w false ≡ rewritten_as act nz b
  unfolding tighten_form
  form_is_lem act nz k b ea en ek eb =
      ap (λ (a : Activity). rewritten_as a (vacuous_room form (row_of w r) a) (spared M (row_of w r) (eligible M form (vacuous_room form (row_of w r) a) w (row_of w r) a (row_of w r).terms 0))) ea
      ∙ ap (λ (x : Float). rewritten_as act x (spared M (row_of w r) (eligible M form x w (row_of w r) act (row_of w r).terms 0))) en
      ∙ ap (λ (j : ℕ). rewritten_as act nz (spared M (row_of w r) j)) ek
      ∙ ap (rewritten_as act nz) eb

-- in the state as the slices show it
abbrev pub form_at : Form → ℕ → Model → Work → Work × Bool
form_at form r M w = tighten_form M form r (row_of w r) w false

module _ {lists : Lists} {s : Context} (form : Form) (r : ℕ) {f : Floats} {n : Numbers}
    (p : r < s.rows) (a : Alive n r) {act : Activity} (A : Reads (Spans lists.rows.starts.now) s f n act (λ M w. activity M w (row_of w r) true))
    {lim : Limits} {terms : ℕ} (L : ReadsLimits s f r terms lim) {nz : Float} (en : nz ≡ vacuous_room form (bare lim) act) {d : ℕ}
    (E : Reads (Binaries lists.domain.now lists.rows.starts.now) s f n d (count_all form nz act r)) {len : ℕ} (el : len ≡ get_or n.len r 0) {b : Bool}
    (S : ByParams b (λ M. spared_at M len d)) where
  tests : (M : Model) (o : List ℕ) (k : ℕ) (w : Work) → Tightening lists M → Call M s → Shows M f n o w → Inv M k w → form_at form r M w ≡ rewritten_as M form r w act nz b
  tests M o k w m c h i =
      form_is_lem M form r w act nz d b
      (A.reads M o k w (tightening_spans M m) c h i)
      (sym (vacuous_room_of form act (L.has M n o w c h a)) ∙ sym en)
      (E.reads M o k w (tightening_binaries M m) c h i)
      (sym (spared_of M (row_of w r) d) ∙ ap (λ (j : ℕ). spared_at M j d) (sym (el ∙ (row_shown c h p a).len)) ∙ sym (S.of M c.params))

  pub form_spared : b ≡ true → ActsBool (Tightening lists) s f n f n false (form_at form r)
  form_spared e = bool_same (form_at form r) (λ M w. (w, false)) (λ M o k w m c h i. tests M o k w m c h i ∙ yes _ _ e) bool_none

  pub form_rewrites : {f' : Floats} {n' : Numbers} {z : Bool} → b ≡ false → ActsBool (Tightening lists) s f n f' n' z
      (loop_at form nz r (begun act false)) → ActsBool (Tightening lists) s f n f' n' z
      (form_at form r)
  form_rewrites e = bool_same (form_at form r) (loop_at form nz r (begun act false)) (λ M o k w m c h i. tests M o k w m c h i ∙ no _ _ e)

-- ---- tighten_alive: by the row's form
by_le : (M : Model) (r : ℕ) (row : Row) (w : Work) (changed : Bool) → tighten_by M le_form r row w changed ≡ tighten_form M le_form r row w changed
unfolding tighten_by
by_le M r row w changed = refl

by_ge : (M : Model) (r : ℕ) (row : Row) (w : Work) (changed : Bool) → tighten_by M ge_form r row w changed ≡ tighten_form M ge_form r row w changed
unfolding tighten_by
by_ge M r row w changed = refl

by_form : (g : forms.Form) (M : Model) (r : ℕ) (row : Row) (w : Work) (changed : Bool) → tighten_by M (form_is g) r row w changed ≡ tighten_form M (form_is g) r row w changed
unfolding tighten_by
by_form Le M r row w changed = refl
by_form Ge M r row w changed = refl

by_none : (M : Model) (r : ℕ) (row : Row) (w : Work) (changed : Bool) → tighten_by M no_form r row w changed ≡ (w, changed)
unfolding tighten_by
by_none M r row w changed = refl

abbrev pub alive_at : ℕ → Model → Work → Work × Bool
alive_at r M w = tighten_by M (form_of (row_of w r)) r (row_of w r) (looked r w) false

form_here : {s : Context} {f : Floats} {n : Numbers} {r terms : ℕ} {lim : Limits} {form : Form} → Alive n r → ReadsLimits s f r terms lim → form ≡ form_of (bare lim)
    → {M : Model} {o : List ℕ} {w : Work} → Call M s → Shows M f n o w → form_of (row_of w r) ≡ form
form_here {n = n} a L e {M} {o} {w} c h = sym (form_of_of (L.has M n o w c h a)) ∙ sym e

module _ {P : Model → Type 0} {s : Context} {f : Floats} {n n₁ : Numbers} (r : ℕ) (e₁ : n₁ ≡ put_coeff_dirty r 0 n) where
  pub looked_ready : Ready P s f n → Ready P s f n₁
  looked_ready R = ready_after R (of_numbers (looked_acts r e₁)) (looked_keeps r)

  pub looked_live : Ready P s f n → Alive n r → Alive n₁ r
  looked_live R a = ap (λ (y : Numbers). get_or y.alive r 0) e₁ ∙ a

  -- what is done after looking, from the state before
  then_looked : {f' : Floats} {n' : Numbers} {z : Bool} {G : Model → Work → Work × Bool} → ActsBool P s f n₁ f' n' z G → ActsBool P s f n f' n' z (λ M w. G M (looked r w))
  then_looked t =
      let a = looked_acts {P = P} r e₁ in
      record {
        does = λ M o k w p c h i. t.does M o k (looked r w) p c (a.does M _ o k w p c h i) (inv_looked r w i);
        says = λ M o k w p c h i. t.says M o k (looked r w) p c (a.does M _ o k w p c h i) (inv_looked r w i);
      }

  module _ (a : Alive n r) {lim : Limits} {terms : ℕ} (L : ReadsLimits s f r terms lim) {form : Form} (ef : form ≡ form_of (bare lim)) where
    pub alive_form : (g : forms.Form) {f' : Floats} {n' : Numbers} {z : Bool} → form ≡ form_is g → ActsBool P s f n₁ f' n' z (form_at (form_is g) r)
        → ActsBool P s f n f' n' z (alive_at r)
    alive_form g e t =
        bool_same (alive_at r) (λ M w. form_at (form_is g) r M (looked r w))
        (λ M o k w p c h i. ap (λ (y : Form). tighten_by M y r (row_of w r) (looked r w) false) (form_here a L ef c h ∙ e) ∙ by_form g M r (row_of w r) (looked r w) false) (then_looked t)

    pub alive_none : form ≡ no_form → ActsBool P s f n f n₁ false (alive_at r)
    alive_none e =
        bool_same (alive_at r) (λ M w. (looked r w, false))
        (λ M o k w p c h i. ap (λ (y : Form). tighten_by M y r (row_of w r) (looked r w) false) (form_here a L ef c h ∙ e) ∙ by_none M r (row_of w r) (looked r w) false) (then_looked bool_none)

-- ---- tighten_row: an alive row whose inputs changed
module _ (M : Model) (r : ℕ) (w : Work) where
  row_looked : (row_of w r).alive && get_or w.coeff_dirty r false ≡ true → tighten_row M r w false ≡ alive_at r M w
  unfolding tighten_row
  row_looked e = yes _ _ e

  row_left : (row_of w r).alive && get_or w.coeff_dirty r false ≡ false → tighten_row M r w false ≡ (w, false)
  unfolding tighten_row
  row_left e = no _ _ e

-- the row's two marks, as the slices have them
module _ {M : Model} {s : Context} {f : Floats} {n : Numbers} {o : List ℕ} {k : ℕ} {w : Work} (r : ℕ) (p : r < s.rows) (c : Call M s) (h : Shows M f n o w) (i : Inv M k w) where
  alive_flag : {v : ℕ} → v ≡ get_or n.alive r 0 → (row_of w r).alive ≡ is_one v
  alive_flag e = sym (h.alive r (omega (arith, p, c.rows))) ∙ ap is_one (sym e)

  dirty_flag : {d : ℕ} → d ≡ get_or n.coeff_dirty r 0 → get_or w.coeff_dirty r false ≡ is_one d
  dirty_flag e =
      let l : length n.coeff_dirty ≡ length w.coeff_dirty = sym (length_map is_one n.coeff_dirty) ∙ ap length h.coeff_dirty in
      ap (λ (b : List Bool). get_or b r false) (sym h.coeff_dirty) ∙ get_d_map is_one n.coeff_dirty r 0 false (omega (arith, p, l, i.coeff_dirties, c.rows)) ∙ ap is_one (sym e)

module _ {P : Model → Type 0} {s : Context} (r : ℕ) {f : Floats} {n : Numbers} (p : r < s.rows) {v : ℕ} (ev : v ≡ get_or n.alive r 0) where
  pub row_dead : (v ≡ 1 → ⊥) → ActsBool P s f n f n false (λ M w. tighten_row M r w false)
  row_dead ne =
      bool_same (λ M w. tighten_row M r w false) (λ M w. (w, false))
      (λ M o k w m c h i. row_left M r w (ap (λ (y : Bool). y && get_or w.coeff_dirty r false) (alive_flag r p c h i ev ∙ one_not v ne))) bool_none

  module _ {d : ℕ} (ed : d ≡ get_or n.coeff_dirty r 0) where
    pub row_seen : (d ≡ 1 → ⊥) → ActsBool P s f n f n false (λ M w. tighten_row M r w false)
    row_seen ne =
        bool_same (λ M w. tighten_row M r w false) (λ M w. (w, false))
        (λ M o k w m c h i. row_left M r w (and_false (row_of w r).alive _ (dirty_flag r p c h i ed ∙ one_not d ne))) bool_none

    pub row_goes : {f' : Floats} {n' : Numbers} {z : Bool} → v ≡ 1 → d ≡ 1 → ActsBool P s f n f' n' z (alive_at r) → ActsBool P s f n f' n' z (λ M w. tighten_row M r w false)
    row_goes one dirty t =
        bool_same (λ M w. tighten_row M r w false) (alive_at r)
        (λ M o k w m c h i.
        let x : (row_of w r).alive ≡ true = alive_flag r p c h i ev ∙ ap is_one one ∙ one_is in
        let y : get_or w.coeff_dirty r false ≡ true = dirty_flag r p c h i ed ∙ ap is_one dirty ∙ one_is in
        row_looked M r w (ap (λ (b : Bool). b && get_or w.coeff_dirty r false) x ∙ y)) t

-- ---- a change before is one after
abbrev pub flag_or : Bool → Work × Bool → Work × Bool
flag_or b y = (y.0, b || y.1)

module _ (M : Model) (r : ℕ) (row : Row) (w : Work) where
  pub form_before : (form : Form) (b : Bool) → tighten_form M form r row w b ≡ flag_or b (tighten_form M form r row w false)
  unfolding tighten_form
  form_before form true =
      let act = activity M w row true in
      let nz = vacuous_room form row act in
      let s : Rewriting = record { row = row; act = act; work = w; changed = false; broke = false } in
      let b = spared M row (eligible M form nz w row act row.terms 0) in
      ap (λ (y : Rewriting). choose b (w, true) (closed r y)) (loop_changed M (length row.terms) form nz r 0 true s)
      ∙ choose_map (flag_or true) b (w, false) (closed r (rewrite_loop M (length row.terms) form nz r 0 s))
  form_before form false = refl

  pub by_before : (form : Form) (b : Bool) → tighten_by M form r row w b ≡ flag_or b (tighten_by M form r row w false)
  unfolding tighten_by
  by_before le_form b = form_before le_form b
  by_before ge_form b = form_before ge_form b
  by_before no_form true = refl
  by_before no_form false = refl

pub row_before : (M : Model) (r : ℕ) (w : Work) (b : Bool) → tighten_row M r w b ≡ ((tighten_row M r w false).0, b || (tighten_row M r w false).1)
unfolding tighten_row
row_before M r w true =
    let c = (row_of w r).alive && get_or w.coeff_dirty r false in
    ap (λ (y : Work × Bool). choose c y (w, true)) (by_before M r (row_of w r) (looked r w) (form_of (row_of w r)) true)
    ∙ choose_map (flag_or true) c (tighten_by M (form_of (row_of w r)) r (row_of w r) (looked r w) false) (w, false)
row_before M r w false = refl

-- ---- it keeps the invariant
module _ {M : Model} {s : Context} {k : ℕ} (c : Call M s) (r : ℕ) (p : r < length M.rhs) where
  inv_form : (form : Form) (w : Work) (changed : Bool) → Inv M k w → (row_of w r).alive ≡ true → Inv M k (tighten_form M form r (row_of w r) w changed).0
  unfolding tighten_form
  inv_form form w changed i a =
      either (λ (y : Work × Bool). Inv M k y.0) _ (λ e. i)
      (λ e. good_shown r _ (loop_good c r p form _ (length (row_of w r).terms) 0 _ (λ _. omega arith) (record { inv = i; alive = a; row = i.rows r p a })))

  inv_by : (form : Form) (w : Work) (changed : Bool) → Inv M k w → (row_of w r).alive ≡ true → Inv M k (tighten_by M form r (row_of w r) w changed).0
  unfolding tighten_by
  inv_by le_form w changed i a = inv_form le_form w changed i a
  inv_by ge_form w changed i a = inv_form ge_form w changed i a
  inv_by no_form w changed i a = i

  pub inv_tighten_row : (w : Work) (changed : Bool) → Inv M k w → Inv M k (tighten_row M r w changed).0
  unfolding tighten_row
  inv_tighten_row w changed i =
      either (λ (y : Work × Bool). Inv M k y.0) _ (λ e. inv_by (form_of (row_of w r)) (looked r w) changed (inv_looked r w i) (and_left (row_of w r).alive _ e)) (λ e. i)

pub row_keeps : {P : Model → Type 0} {s : Context} (r : ℕ) → r < s.rows → KeepsBool P s (λ M w. tighten_row M r w false)
row_keeps r p = record { keeps = λ M k w m c i. inv_tighten_row c r (omega (arith, p, c.rows)) w false i }
