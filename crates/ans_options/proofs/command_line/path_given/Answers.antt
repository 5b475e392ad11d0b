use Rattle.std.proofs.Common.{◌∙◌, ◌≡◌, [], Option, Some, None, ap, option_map, refl, unwrap_or, codes}
use Rattle.std.specs.Borrow.{Bor}
use Rattle.clap.specs.Words.{Text, found_of}
use Rattle.clap.proofs.WalkLemmas.{first_value-rows}
use Rattle.ans_options.proofs.command_line.path_given.Goals as goal

-- what is seen of a value, or of another in its place
seen_or : (o : Option (Bor Text)) (other : Bor Text) → (unwrap_or o other).now
    ≡ unwrap_or (option_map (λ s. s.now) o) other.now
seen_or None other = refl
seen_or (Some x) other = refl

pub returns : goal.returns
returns c =
    ap (λ (s : Bor Text). s.now) c.unwrap_or.ensures ∙ seen_or c.get_str.result _
    ∙ ap (λ (o : Option Text). unwrap_or o [])
    (c.get_str.ensures ∙ first_value-rows (found_of c.args.matches.now) (codes "output"))
