use Rattle.std.proofs.Common.{◌≡◌, ◌+◌, ◌-◌, ◌≤◌, ℕ, List, [], ◌++◌, length, take, drop, ap, refl, sym, ◌∙◌, subst}
use Rattle.std.proofs.Common.{arith, Option, true}
use Rattle.std.specs.List.{flat_map}
use Rattle.std.proofs.lemmas.List.{drop-drop, length-drop, length-take-le}
use Rattle.ans_pens.specs.Counted.{counted}
use Rattle.ans_hints.specs.FullRowEnds.{IsFirstEnd, StandsBetween, bytes_of, without, without_ends}
use Rattle.ans_hints.specs.declared.full_row_ends.FullRowEnd.{FullRowEnd}
use Rattle.ans_pens.specs.declared.times.Times.{Times}
use Rattle.ans_mend.specs.FullRows.{first_byte, times_with}
use Rattle.ans_mend.proofs.RowEndsOut.{counted_within, feed_behind, next_window, over_window, total_next, window}
use Rattle.ans_mend.proofs.full_rows.take_out_ends.Goals as goal

pub ends-preserved : goal.ends-preserved
ends-preserved c =
    let m0 : List ℕ = c.args.memory.now in
    let count : ℕ = c.args.count in
    let read : ℕ = c.ends.read in
    let memory : List ℕ = c.ends.memory in
    let i = c.ends.invariant in
    let e : FullRowEnd = c.in-Some.end in
    let behind = c.in-Some.ensures.behind in
    let t = c.take_out_end-kept.ensures in
    let next : ℕ = c.next_end.new.self.played in
    let within = c.requires.within in
    let long : length (take (count - read) (drop read memory)) ≡ count - read =
    length-take-le (count - read) (drop read memory)
    (rw (length-drop read memory) (omega (arith, within, i.same_length))) in
    let place = i.read in
    let played = behind.played in
    let reached : next ≤ count = omega (arith, behind.within, long, place, i.within) in
    let low : read ≤ e.line_feed =
    rw place (feed_behind c.ends.rows.played e.return_at e.line_feed behind.stands) in
    let up : read ≤ next = omega (arith, low, played) in
    let stands = subst (λ (n : ℕ). StandsBetween n e.return_at e.line_feed) (sym place) behind.stands in
    let times_are : c.once_more-times.result ≡ counted c.ends.times true (first_byte e) =
    c.once_more-times.ensures ∙ ap (counted c.ends.times true) c.first_byte.ensures in
    record {
      same_length = t.same_length ∙ i.same_length;
      read = refl;
      order = let few = t.few in omega (arith, few, played);
      within = reached;
      left =
          let all : drop (e.line_feed + 1) c.take_out_end-kept.new.memory ≡ drop (e.line_feed + 1) m0 =
          t.left ∙ ap (λ (n : ℕ). drop n memory) (omega (arith, low))
          ∙ sym (drop-drop (e.line_feed + 1 - read) read memory)
          ∙ ap (drop (e.line_feed + 1 - read)) i.left ∙ drop-drop (e.line_feed + 1 - read) read m0
          ∙ ap (λ (n : ℕ). drop n m0) (omega (arith, low)) in
          subst (λ (n : ℕ). drop n c.take_out_end-kept.new.memory ≡ drop n m0) (sym played) all;
      few =
          let less = counted_within c.ends.times (first_byte e) read i.few in
          rw times_are (omega (arith, less, low, played));
      over = λ ends h.
          let o = i.over ends h in
          let first : IsFirstEnd c.ends.rows (take (count - read) (drop read memory)) o.0 c.next_end.new.self e =
          c.in-Some.ensures.ends o.0 (over_window m0 c.ends.rows memory count read within place i.within
          i.left o.0 o.1) in
          let total : take c.take_out_end-kept.result c.take_out_end-kept.new.memory
          ++ without (e.line_feed + 1) (flat_map bytes_of first.later) (drop (e.line_feed + 1) (take count m0))
          ≡ without_ends 0 ends (take count m0) =
          total_next m0 memory c.take_out_end-kept.new.memory count c.ends.kept read c.take_out_end-kept.result e
          first.later within stands low (omega (arith, reached, played)) i.left t.kept
          ∙ ap (λ (v : List FullRowEnd). take c.ends.kept memory ++ without read (flat_map bytes_of v)
          (drop read (take count m0))) (sym first.first)
          ∙ o.2 in (
            first.later,
            next_window m0 c.ends.rows memory count read within place i.within i.left o.0 c.next_end.new.self
                e first up,
            subst (λ (n : ℕ). take c.take_out_end-kept.result c.take_out_end-kept.new.memory
                ++ without n (flat_map bytes_of first.later) (drop n (take count m0))
                ≡ without_ends 0 ends (take count m0)) (sym played) total,
            ap (λ (v : Option Times). times_with v first.later) times_are
                ∙ ap (times_with c.ends.times) (sym first.first) ∙ o.3,
          );
    }

pub returns-clause-left : goal.returns-clause-left
returns-clause-left c ends h =
    let m0 : List ℕ = c.args.memory.now in
    let count : ℕ = c.args.count in
    let read : ℕ = c.ends.read in
    let i = c.ends.invariant in
    let o = i.over ends h in
    let none : o.0 ≡ [] =
    c.in_default.ensures.ends o.0
    (over_window m0 c.ends.rows c.ends.memory count read c.requires.within i.read i.within i.left o.0 o.1) in
    c.keep.ensures.kept
    ∙ ap (λ (v : List ℕ). take c.ends.kept c.ends.memory ++ v)
    (window c.ends.memory m0 read count i.within c.requires.within i.left)
    ∙ ap (λ (v : List FullRowEnd). take c.ends.kept c.ends.memory ++ without read (flat_map bytes_of v)
    (drop read (take count m0))) (sym none)
    ∙ o.2

pub returns-clause-times : goal.returns-clause-times
returns-clause-times c ends h =
    let i = c.ends.invariant in
    let o = i.over ends h in
    let none : o.0 ≡ [] =
    c.in_default.ensures.ends o.0
    (over_window c.args.memory.now c.ends.rows c.ends.memory c.args.count c.ends.read c.requires.within i.read i.within
    i.left o.0 o.1) in
    ap (times_with c.ends.times) (sym none) ∙ o.3

pub returns-clause-behind : goal.returns-clause-behind
returns-clause-behind c =
    let m0 : List ℕ = c.args.memory.now in
    let count : ℕ = c.args.count in
    let read : ℕ = c.ends.read in
    let i = c.ends.invariant in
    let within = i.within in
    let k = c.keep.ensures.count in
    let order = i.order in
    c.keep.ensures.left count (omega (arith, k, order, within))
    ∙ ap (λ (n : ℕ). drop n c.ends.memory) (omega (arith, within)) ∙ sym (drop-drop (count - read) read c.ends.memory)
    ∙ ap (drop (count - read)) i.left ∙ drop-drop (count - read) read m0
    ∙ ap (λ (n : ℕ). drop n m0) (omega (arith, within))
