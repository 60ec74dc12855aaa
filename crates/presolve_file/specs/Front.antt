-- What the reader leaves in arrays that every file fits in: a refusal, or the model at their front. Either way what is told of it is told of the file.
use Rattle.std.specs.Prelude.{ℕ, ◌+◌, ◌≤◌, true, List, ◌++◌, length, take, drop}
use Rattle.std.proofs.Common.{arith, sym, ◌∙◌, le-leb, length-append}
use Rattle.std.proofs.Math.Path.{◌≡◌, refl, ap}
use Rattle.std.proofs.Math.Seq.{take-append_seam}
use Rattle.floats.specs.Num.{choose}
use Rattle.definition.specs.Model.{Model}
use Rattle.definition.specs.Of.{model_of}
use Rattle.model_file.specs.declared.Header.{Header}
use Rattle.model_file.specs.Format.{Lists, Decoded, refusal, file, decode}
use Rattle.model_file.specs.Reading.{FileRead, Slices, over, filled, room, room_vars, room_rows, header_of, Out, out, into, read_into}
use Rattle.print_result.specs.Text.{refused_line}
use Rattle.presolve_file.specs.Whole.{model_in, told}
use Rattle.presolve_file.specs.Small.{Small, small}

-- ---- arrays that every file fits in
pub record Wide (l : Slices) : Type 0 where
  pub objective : length l.objective ≡ 128
  pub lower : length l.lower ≡ 128
  pub upper : length l.upper ≡ 128
  pub domain : length l.domain ≡ 128
  pub starts : length l.starts ≡ 129
  pub index : length l.index ≡ 512
  pub coeff : length l.coeff ≡ 512
  pub cmp : length l.cmp ≡ 128
  pub rhs : length l.rhs ≡ 128

roomy : (f : Lists) (l : Slices) → Wide l → Small f → room f l ≡ true
unfolding room room_vars room_rows
roomy f l w s =
    rw (
      w.objective,
      w.lower,
      w.upper,
      w.domain,
      w.starts,
      w.index,
      w.coeff,
      w.cmp,
      w.rhs,
      le-leb (length f.objective) 128 s.vars,
      le-leb (length f.cmp + 1) 129 (omega (arith, s.rows)),
      le-leb (length f.index) 512 s.terms,
      le-leb (length f.cmp) 128 s.rows,
    )

-- ---- the model at the front of the slices
abbrev pub front_model : Header → Slices → Model
front_model h l =
    model_of (take h.vars l.objective) (take h.vars l.lower) (take h.vars l.upper) (take h.vars l.domain)
    (take (h.rows + 1) l.starts) (take h.terms l.index) (take h.terms l.coeff) (take h.rows l.cmp) (take h.rows l.rhs)
    h.mode h.feasibility h.int_tol

-- its parts are there
pub record SlicesHold (h : Header) (l : Slices) : Type 0 where
  pub few : h.rows ≤ 128
  pub objective : h.vars ≤ length l.objective
  pub lower : h.vars ≤ length l.lower
  pub upper : h.vars ≤ length l.upper
  pub domain : h.vars ≤ length l.domain
  pub starts : h.rows + 1 ≤ length l.starts
  pub index : h.terms ≤ length l.index
  pub coeff : h.terms ≤ length l.coeff
  pub cmp : h.rows ≤ length l.cmp
  pub rhs : h.rows ≤ length l.rhs

front : {A : Type 0} (n : ℕ) (l old : List A) → n ≡ length l → take n (over l old) ≡ l
unfolding over
front n l old e = ap (λ (k : ℕ). take k (l ++ drop (length l) old)) e ∙ take-append_seam l _

there : {A : Type 0} (n : ℕ) (l old : List A) → n ≡ length l → n ≤ length (over l old)
unfolding over
there n l old e = omega (arith, e, length-append l (drop (length l) old))

module _ (f : Lists) (l : Slices) (s : Small f) where
  held : SlicesHold (header_of f) (filled f l)
  unfolding header_of filled
  held =
      record {
        few = s.rows;
        objective = there _ f.objective l.objective refl;
        lower = there _ f.lower l.lower (sym s.lower);
        upper = there _ f.upper l.upper (sym s.upper);
        domain = there _ f.domain l.domain (sym s.domain);
        starts = there _ f.starts l.starts (sym s.starts);
        index = there _ f.index l.index refl;
        coeff = there _ f.coeff l.coeff (sym s.coeff);
        cmp = there _ f.cmp l.cmp refl;
        rhs = there _ f.rhs l.rhs (sym s.rhs);
      }

  front_is : front_model (header_of f) (filled f l) ≡ model_in f
  unfolding header_of filled
  front_is =
      rw (
        front _ f.objective l.objective refl,
        front _ f.lower l.lower (sym s.lower),
        front _ f.upper l.upper (sym s.upper),
        front _ f.domain l.domain (sym s.domain),
        front _ f.starts l.starts (sym s.starts),
        front _ f.index l.index refl,
        front _ f.coeff l.coeff (sym s.coeff),
        front _ f.cmp l.cmp refl,
        front _ f.rhs l.rhs (sym s.rhs),
      )

-- M is the model of a file that was read
pub data Is (M : Model) : Decoded → Type 0 where
  is_file : {f : Lists} → M ≡ model_in f → Is M (file f)

is_told : (t : Model → List ℕ) {M : Model} (d : Decoded) → Is M d → t M ≡ told t d
is_told t (file f) (is_file e) = ap t e
is_told t (refusal n) x = elim x [ ]

-- ---- what is read
into_file : (f : Lists) (l : Slices) → Wide l → Small f → into (file f) l ≡ out (FileRead.Model (header_of f)) (filled f l)
unfolding into choose
into_file f l w s = rw (roomy f l w s)

module _ (s : List ℕ) (l : Slices) (w : Wide l) where
  number_by : (d : Decoded) {n : ℕ} {l' : Slices} → decode s ≡ d → out (FileRead.Refused n) l' ≡ into d l → d ≡ refusal n
  unfolding into
  number_by (refusal m) {n} p e = let y : FileRead.Refused n ≡ FileRead.Refused m = ap (λ (o : Out). o.answer) e in ap refusal cc
  number_by (file f) {n} p e =
      absurd
      (let y : FileRead.Refused n ≡ FileRead.Model (header_of f) = ap (λ (o : Out). o.answer) (e ∙ into_file f l w (small s f p)) in
      let z : ◌≡◌ {A = ℕ} 0 1 = cc in omega arith)

  lists_by : (d : Decoded) {h : Header} {l' : Slices} → decode s ≡ d → out (FileRead.Model h) l' ≡ into d l → SlicesHold h l' × Is (front_model h l') d
  unfolding into
  lists_by (refusal m) {h} p e = absurd (let y : FileRead.Model h ≡ FileRead.Refused m = ap (λ (o : Out). o.answer) e in let z : ◌≡◌ {A = ℕ} 0 1 = cc in omega arith)
  lists_by (file f) {h} {l'} p e =
      let y = e ∙ into_file f l w (small s f p) in
      let x : FileRead.Model h ≡ FileRead.Model (header_of f) = ap (λ (o : Out). o.answer) y in
      let a : h ≡ header_of f = cc in
      let b : l' ≡ filled f l = ap (λ (o : Out). o.lent) y in
      rw (a, b) (held f l (small s f p), is_file {f = f} (front_is f l (small s f p)))

-- r is what the reader answered, l and l' are the arrays before and after it
module _ (s : List ℕ) (l : Slices) (w : Wide l) {r : FileRead} {l' : Slices} (e : out r l' ≡ read_into s l) where
  pub refused_number : {n : ℕ} → r ≡ FileRead.Refused n → decode s ≡ refusal n
  unfolding read_into
  refused_number q = number_by s l w (decode s) refl (ap (λ (x : FileRead). out x l') (sym q) ∙ e)

  read_model : {h : Header} → r ≡ FileRead.Model h → SlicesHold h l' × Is (front_model h l') (decode s)
  unfolding read_into
  read_model q = lists_by s l w (decode s) refl (ap (λ (x : FileRead). out x l') (sym q) ∙ e)

  pub read_held : {h : Header} → r ≡ FileRead.Model h → SlicesHold h l'
  read_held q = (read_model q).0

  pub read_lists : {h : Header} → r ≡ FileRead.Model h → Is (front_model h l') (decode s)
  read_lists q = (read_model q).1

  -- what is told of it, by any text t of a model
  module _ (t : Model → List ℕ) where
    pub read_refused : {n : ℕ} → r ≡ FileRead.Refused n → refused_line n ≡ told t (decode s)
    read_refused q = sym (ap (told t) (refused_number q))

    pub read_text : {h : Header} → r ≡ FileRead.Model h → t (front_model h l') ≡ told t (decode s)
    read_text q = is_told t (decode s) (read_lists q)
