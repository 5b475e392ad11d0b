use Rattle.std.proofs.Common.{◌∙◌, ◌≡◌, Option, Some, None, ap, is_some, option_map, refl}
use Rattle.clap.specs.Words.{found_of}
use Rattle.clap.proofs.WalkLemmas.{first_value-rows}
use Rattle.ans_options.proofs.command_line.is_given.Goals as goal

-- a view is there if what it shows is
some_mapped : {A B : Type 0} (f : A → B) (o : Option A) → is_some o ≡ is_some (option_map f o)
some_mapped f None = refl
some_mapped f (Some x) = refl

pub returns : goal.returns
returns c =
    c.is_some.ensures ∙ some_mapped (λ s. s.now) c.get_str.result
    ∙ ap is_some (c.get_str.ensures ∙ first_value-rows (found_of c.args.matches.now) c.args.id.now)
