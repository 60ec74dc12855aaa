-- AN ACCEPTED CALL: no row of the table applies, so that the call is as the port's functions have it, and the lent slices have room.
use Rattle.std.specs.Prelude.{ℕ, ◌+◌, ◌*◌, ◌≤◌, ◌≡◌, Bool, false, ◌||◌, ltb, length}
use Rattle.std.proofs.Common.{add-one, arith, sym, ◌∙◌, ltb-false}
use Rattle.std.proofs.Math.Option.{none}
use Rattle.definition.specs.Params.{params}
use Rattle.definition.specs.Model.{Model, is_mip}
use Rattle.definition.specs.Refusal.{Lent, floats_needed, numbers_needed, adjacency_needed}
use Rattle.definition.specs.Refusal.{too_short, refusal}
use Rattle.definition.specs.Accepted.{accepted, accepted_shaped}
use Rattle.space.specs.declared.Context.{Context}
use Rattle.view.specs.Call.{Call}
use Rattle.refuse.specs.Rows.{neither, lengths_agree, sizes_small}

-- s has the model's scalars
pub record Scalars (M : Model) (s : Context) : Type 0 where
  pub vars : s.vars ≡ length M.lower
  pub rows : s.rows ≡ length M.rhs
  pub terms : s.terms ≡ length M.index
  pub mip : s.mip ≡ is_mip M
  pub feas : s.feas ≡ M.feas

-- AN ACCEPTED CALL is a call
pub call_of : (M : Model) (L : Lent) (s : Context) → refusal M L ≡ none → M.params ≡ params → Scalars M s → Call M s
call_of M L s e p c =
    let a = accepted M L e in
    let g = lengths_agree M a.lengths in
    let k = sizes_small M a.sizes in
    let h = accepted_shaped M L e in
    record {
      vars = c.vars;
      rows = c.rows;
      terms = c.terms;
      mip = c.mip;
      feas = c.feas;
      params = p;
      uppers = h.uppers;
      domains = h.domains;
      objs = sym g.lower;
      cmps = h.ops;
      coeffs = h.coeffs;
      starts = g.starts ∙ add-one _;
      max_vars = omega (arith, g.lower, k.vars);
      max_rows = k.rows;
      max_terms = k.terms;
      rise = h.starts;
      last = h.ends;
      index = h.index;
      rising = h.rising;
    }

-- ---- the lent slices: each result slice has as many entries as there are variables, rows or terms, and the working slices hold their blocks
pub record LentRoom (s : Context) (L : Lent) : Type 0 where
  pub lower : s.vars ≤ L.lower
  pub upper : s.vars ≤ L.upper
  pub emit_row : s.rows ≤ L.emit_row
  pub emit_rewritten : s.rows ≤ L.emit_rewritten
  pub emit_rhs : s.rows ≤ L.emit_rhs
  pub emit_from : s.rows ≤ L.emit_from
  pub emit_upto : s.rows ≤ L.emit_upto
  pub kept : s.rows ≤ L.kept
  pub term_index : s.terms ≤ L.term_index
  pub term_coeff : s.terms ≤ L.term_coeff
  pub floats : 4 * s.vars + 8 * s.rows + s.terms ≤ L.floats
  pub numbers : 6 + 10 * s.rows + 3 * s.vars + 2 * s.terms ≤ L.numbers
  pub adjacency : s.vars + 1 + s.terms ≤ L.adjacency

-- one length of many is long enough, and so are those before it
enough : (a : Bool) (have need : ℕ) → (a || ltb have need) ≡ false → (a ≡ false) × (need ≤ have)
enough a have need e = let p = neither a (ltb have need) e in (p.0, ltb-false have need p.1)

-- AN ACCEPTED CALL has room
pub room_of : (M : Model) (L : Lent) (s : Context) → refusal M L ≡ none → Scalars M s → LentRoom s L
unfolding too_short floats_needed numbers_needed adjacency_needed
room_of M L s e c =
    let a = accepted M L e in
    let g = (lengths_agree M a.lengths).lower in
    let v = length M.obj in
    let r = length M.rhs in
    let t = length M.index in
    let p13 = enough _ L.adjacency (v + 1 + t) a.room in
    let p12 = enough _ L.numbers (6 + 10 * r + 3 * v + 2 * t) p13.0 in
    let p11 = enough _ L.floats (4 * v + 8 * r + t) p12.0 in
    let p10 = enough _ L.term_coeff t p11.0 in
    let p9 = enough _ L.term_index t p10.0 in
    let p8 = enough _ L.kept r p9.0 in
    let p7 = enough _ L.emit_upto r p8.0 in
    let p6 = enough _ L.emit_from r p7.0 in
    let p5 = enough _ L.emit_rhs r p6.0 in
    let p4 = enough _ L.emit_rewritten r p5.0 in
    let p3 = enough _ L.emit_row r p4.0 in
    let p2 = enough (ltb L.lower v) L.upper v p3.0 in
    let vars : s.vars ≡ v = c.vars ∙ g in
    record {
      lower = omega (arith, ltb-false L.lower v p2.0);
      upper = omega (arith, p2.1);
      emit_row = omega (arith, p3.1, c.rows);
      emit_rewritten = omega (arith, p4.1, c.rows);
      emit_rhs = omega (arith, p5.1, c.rows);
      emit_from = omega (arith, p6.1, c.rows);
      emit_upto = omega (arith, p7.1, c.rows);
      kept = omega (arith, p8.1, c.rows);
      term_index = omega (arith, p9.1, c.terms);
      term_coeff = omega (arith, p10.1, c.terms);
      floats = omega (arith, p11.1, c.rows, c.terms);
      numbers = omega (arith, p12.1, c.rows, c.terms);
      adjacency = omega (arith, p13.1, c.terms);
    }
