use Rattle.std.proofs.Common.{◌≡◌, ◌∙◌, ◌<◌, ◌≤◌, ap, arith, map, rules}
use Rattle.serde_json.proofs.Views.{view-Array}
use Rattle.serde_json.specs.Data.{array, string}
use Rattle.serde_json.specs.View.{items_of, view}
use Rattle.ans_model.specs.File.Record.{comment, comment_count}
use Rattle.ans_model.specs.Text.Characters.{shown_bytes}
use Rattle.ans_sauce.specs.Parts.{comments_of, record_of}
use Rattle.ans_sauce.specs.RecordBytes.{sauce_bytes}
use Rattle.ans_table.specs.JsonRow.{comment_texts}
use Rattle.ans_table.proofs.JsonLemmas.{comment_next, comments_done, views_next}
use Rattle.ans_table.proofs.json_object.comments_value.Goals as goal

pub loop-i-preserved : goal.loop-i-preserved
loop-i-preserved c =
    let parts = c.args.parts.now in
    let n = comment_count (record_of parts) in
    let count : comment_count (sauce_bytes c.sauce.result) ≡ n = ap comment_count c.sauce.ensures in
    let lt : c.loop-i.i < n = omega (arith, count) in
    let text : c.unwrap.result.now ≡ comment (comments_of parts) c.loop-i.i = search rules in
    let is : view c.in_ok-shown_value.field-0 ≡ string (shown_bytes (comment (comments_of parts) c.loop-i.i)) =
    rw text at c.in_ok-shown_value.ensures in
    views_next c.loop-i.list.items c.push.new.list.items c.in_ok-shown_value.field-0 _ _ c.in_ok-push.ensures.ok
    (comment_next (map view c.loop-i.list.items) c.loop-i.i n (comments_of parts) (view c.in_ok-shown_value.field-0)
    (map string (comment_texts parts)) lt is c.loop-i.invariant)

pub returns : goal.returns
returns c =
    let parts = c.args.parts.now in
    let n = comment_count (record_of parts) in
    let count : comment_count (sauce_bytes c.sauce.result) ≡ n = ap comment_count c.sauce.ensures in
    let le : n ≤ c.loop-i.i = omega (arith, count) in
    view-Array c.loop-i.list
    ∙ ap (λ ds. array (items_of ds))
    (comments_done (map view c.loop-i.list.items) c.loop-i.i n (comments_of parts) (map string (comment_texts parts)) le
    c.loop-i.invariant)
