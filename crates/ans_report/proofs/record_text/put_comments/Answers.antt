use Rattle.std.proofs.Common.{rules, arith, ◌≡◌, ◌≤◌, true, ap}
use Rattle.ans_model.specs.File.Record.{comment, comment_count}
use Rattle.ans_sauce.specs.RecordBytes.{sauce_bytes}
use Rattle.ans_sauce.specs.Parts.{comments_of, record_of}
use Rattle.ans_write.specs.Puts.{device_failed}
use Rattle.ans_report.proofs.RecordLemmas.{comment_put, comments_put}
use Rattle.ans_report.proofs.record_text.put_comments.Goals as goal

pub returns-then-has_failed : goal.returns-then-has_failed
returns-then-has_failed g c =
    let n = comment_count (record_of c.args.parts.now) in
    let count : comment_count (sauce_bytes c.sauce.result) ≡ n = ap comment_count c.sauce.ensures in
    let le : c.loop-i.i ≤ n = omega (arith, count) in
    let failed : device_failed c.loop-i.out ≡ true = search rules in
    comments_put c.loop-i.i n (comments_of c.args.parts.now) le failed c.loop-i.invariant

pub loop-i-preserved : goal.loop-i-preserved
loop-i-preserved g c =
    let comments = comments_of c.args.parts.now in
    let i = c.loop-i.i in
    let text : c.unwrap.result.now ≡ comment comments i = search rules in
    comment_put i comments c.loop-i.invariant (rw text at c.put_field.ensures)

pub returns : goal.returns
returns g c =
    let n = comment_count (record_of c.args.parts.now) in
    let count : comment_count (sauce_bytes c.sauce.result) ≡ n = ap comment_count c.sauce.ensures in
    let all : c.loop-i.i ≡ n = omega (arith, count) in
    rw all at c.loop-i.invariant
