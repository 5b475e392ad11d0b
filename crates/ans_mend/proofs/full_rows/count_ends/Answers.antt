use Rattle.std.proofs.Common.{◌≡◌, ◌≤◌, ◌-◌, ◌∙◌, ℕ, List, [], ◌∷◌, length, take, drop, ap, refl, subst, sym, arith}
use Rattle.std.proofs.lemmas.List.{drop-drop, length-drop, take_all}
use Rattle.ans_hints.specs.FullRowEnds.{AreEndsOver, IsFirstEnd}
use Rattle.ans_hints.specs.declared.row_play.RowPlay.{RowPlay}
use Rattle.ans_hints.specs.declared.full_row_ends.FullRowEnd.{FullRowEnd}
use Rattle.ans_mend.proofs.RowEndsOut.{feed_behind}
use Rattle.ans_mend.proofs.full_rows.count_ends.Goals as goal

slice_is : (read : ℕ) (content : List ℕ) → take (length content - read) (drop read content) ≡ drop read content
slice_is read content =
    let long = length-drop read content in
    take_all (length content - read) (drop read content) (omega (arith, long))

over_slice : (rows : RowPlay) (read : ℕ) (content : List ℕ) (ends : List FullRowEnd)
    → AreEndsOver rows (drop read content) ends
    → AreEndsOver rows (take (length content - read) (drop read content)) ends
over_slice rows read content ends h =
    subst (λ (v : List ℕ). AreEndsOver rows v ends) (sym (slice_is read content)) h

pub ends-preserved : goal.ends-preserved
ends-preserved c =
    let content : List ℕ = c.args.content.now in
    let read : ℕ = c.ends.read in
    let next : ℕ = c.next_end.new.self.played in
    let i = c.ends.invariant in
    let e : FullRowEnd = c.in-Some.field-0 in
    let behind = c.in-Some.ensures.behind in
    let place = i.read in
    let played = behind.played in
    let long : length (drop read content) ≡ length content - read = length-drop read content in
    let low : read ≤ e.line_feed =
    rw place (feed_behind c.ends.rows.played e.return_at e.line_feed behind.stands) in
    record {
      read = refl;
      within =
          let in_rest = behind.within in
          let all = i.within in
          let slice = ap length (slice_is read content) in
          omega (arith, in_rest, slice, long, place, all);
      few = let less = i.few in omega (arith, less, low, played);
      over = λ ends h.
          let o = i.over ends h in
          let first : IsFirstEnd c.ends.rows (take (length content - read) (drop read content)) o.0
          c.next_end.new.self e =
          c.in-Some.ensures.ends o.0 (over_slice c.ends.rows read content o.0 o.1) in
          let rest : drop (next - c.ends.rows.played) (take (length content - read) (drop read content))
          ≡ drop next content =
          ap (drop (next - c.ends.rows.played)) (slice_is read content)
          ∙ drop-drop (next - c.ends.rows.played) read content
          ∙ ap (λ (n : ℕ). drop n content) (omega (arith, place, low, played)) in
          let one : length o.0 ≡ length (e ∷ first.later) = ap length first.first in
          let all = o.2 in (
            first.later,
            subst (λ (v : List ℕ). AreEndsOver c.next_end.new.self v first.later) rest first.goes_on,
            omega (arith, one, all),
          );
    }

pub returns : goal.returns
returns c ends h =
    let o = c.ends.invariant.over ends h in
    let none : o.0 ≡ [] =
    c.in_default.ensures.ends o.0 (over_slice c.ends.rows c.ends.read c.args.content.now o.0 o.1) in
    let no_more : length o.0 ≡ 0 = ap length none in
    let all = o.2 in
    omega (arith, no_more, all)
