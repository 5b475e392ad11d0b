use Rattle.std.proofs.Common.{◌≡◌, inr, refl, length, arith, ◌+◌, ◌<◌, ◌≤◌, sym, ◌∙◌, true}
use Rattle.std.specs.Char.{is_ascii_alphabetic}
use Rattle.ans_model.specs.Bytes.{most_parameters}
use Rattle.ans_tokens.specs.Unfinished.{with_next}
use Rattle.ans_tokens.proofs.ScannerSteps.{too_many, next_member, letter_spells}
use Rattle.ans_tokens.proofs.PartLemmas.{same_count}
use Rattle.ans_tokens.proofs.unfinished.Unfinished.stop.Goals as goal

pub returns-then-len-ge-MAX_PARAMETERS : goal.returns-then-len-ge-MAX_PARAMETERS
returns-then-len-ge-MAX_PARAMETERS c part y state spelled none =
    let e : c.args.byte ≡ 59 = c.if-byte-eq59.true in
    let full : most_parameters ≤ length part.done + 1 = omega (arith, same_count c.args.self.now part state) in
    let t = too_many part y spelled (c.requires part state) full in
    (rw e t.0, inr (inr (rw e t.1, e, refl)))

pub returns-else-len-ge-MAX_PARAMETERS : goal.returns-else-len-ge-MAX_PARAMETERS
returns-else-len-ge-MAX_PARAMETERS c part y state spelled none =
    let e : c.args.byte ≡ 59 = c.if-byte-eq59.true in
    let few : length part.done + 1 < most_parameters = omega (arith, same_count c.args.self.now part state) in
    (with_next part, c.end_member.ensures part state, rw e (next_member part y spelled (c.requires part state) few))

pub returns-then-is_ascii_alphabetic : goal.returns-then-is_ascii_alphabetic
returns-then-is_ascii_alphabetic c part y state spelled none =
    let letter : is_ascii_alphabetic c.args.byte ≡ true =
    sym c.is_ascii_alphabetic.ensures.value ∙ c.if-is_ascii_alphabetic.true in
    (state, c.requires part state, letter_spells part y c.args.byte spelled (c.requires part state) letter)
