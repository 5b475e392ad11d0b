use Rattle.std.proofs.Common.{◌≡◌, ◌≤◌, ◌+◌, ◌/◌, ◌%◌, ◌++◌, List, ℕ, length, take, replicate, ap, sym, ◌∙◌, arith}
use Rattle.std.proofs.Common.{append_assoc}
use Rattle.ans_redraw.specs.Form.{skip, over_few, texts}
use Rattle.ans_redraw.proofs.WayTexts.{one_more, most_skipped, over_texts, skips_and_few}
use Rattle.ans_redraw.proofs.way.write_way.Goals as goal

pub write-reached-requires : goal.write-reached-requires
write-reached-requires c =
    let h = skips_and_few c.args.blanks in
    let room : c.loop-skip.reached + 6 ≤ length c.loop-skip.text = omega (arith, c.loop-skip.invariant) in
    (omega arith, (room, omega arith))

pub loop-skip-preserved : goal.loop-skip-preserved
loop-skip-preserved c =
    let i = c.loop-skip._skip in
    let front = take c.args.end c.args.text.now in
    record {
      within = omega arith;
      long = c.write-reached.ensures.length ∙ c.loop-skip.invariant.long;
      so_far = c.write-reached.ensures.text
          ∙ ap (λ (v : List ℕ). take c.loop-skip.reached c.loop-skip.text ++ v) (sym most_skipped)
          ∙ ap (λ (v : List ℕ). v ++ (skip 255).text) c.loop-skip.invariant.so_far
          ∙ append_assoc front (texts (replicate i (skip 255))) (skip 255).text
          ∙ ap (λ (v : List ℕ). front ++ v) (sym (one_more i (skip 255)));
    }

pub write_few-requires-clause-room : goal.write_few-requires-clause-room
write_few-requires-clause-room c =
    let h = skips_and_few c.args.blanks in
    omega (arith, c.loop-skip.invariant)

pub returns-clause-within : goal.returns-clause-within
returns-clause-within c =
    let h = skips_and_few c.args.blanks in
    omega (arith, c.loop-skip.invariant, c.write_few.ensures)

pub returns-clause-text : goal.returns-clause-text
returns-clause-text c =
    let n = c.args.blanks in
    let front = take c.args.end c.args.text.now in
    let few = texts (over_few c.args.attribute (n % 255)) in
    let all : c.loop-skip._skip ≡ n / 255 = omega arith in
    c.write_few.ensures.text ∙ ap (λ (v : List ℕ). v ++ few) c.loop-skip.invariant.so_far
    ∙ append_assoc front (texts (replicate c.loop-skip._skip (skip 255))) few
    ∙ ap (λ (k : ℕ). front ++ (texts (replicate k (skip 255)) ++ few)) all
    ∙ ap (λ (v : List ℕ). front ++ v) (over_texts c.args.attribute n)
