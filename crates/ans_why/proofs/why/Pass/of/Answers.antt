use Rattle.std.proofs.lemmas.Option.{IfSome_then}
use Rattle.ans_sauce.specs.Parts.{size_of, content_of}
use Rattle.ans_why.proofs.Relying.{nothing_relied, relied}
use Rattle.ans_why.proofs.why.Pass.of.Goals as goal

pub of-overview-requires-clause-needs : goal.of-overview-requires-clause-needs
of-overview-requires-clause-needs c = rw (c.content-content.ensures, c.size-size.ensures) c.requires.needs

pub reliance_of-requires-clause-deserved : goal.reliance_of-requires-clause-deserved
reliance_of-requires-clause-deserved c =
    rw (c.content-content.ensures, c.size-size.ensures)
    (IfSome_then c.args.fault c.requires.fault (λ f both. both.1))

pub returns : goal.returns
returns c =
    let parts = c.args.parts.now in
    let z = size_of parts in
    let content = content_of parts in
    let needs = c.args.needs in
    record {
      needs = c.requires.needs;
      players = rw (c.content-content.ensures, c.size-size.ensures) at c.of-overview.ensures.players;
      taller = rw (c.content-content.ensures, c.size-size.ensures) at c.of-overview.ensures.taller;
      nothing = nothing_relied z c.args.file_length content needs c.args.fault c.reliance_of.result c.requires.nothing
          c.reliance_of.ensures.nothing;
      relies = relied z c.args.file_length content needs c.args.fault c.reliance_of.result c.requires.fault
          (rw (c.content-content.ensures, c.size-size.ensures) at c.reliance_of.ensures.relies);
      hints = rw (c.content-content.ensures, c.size-size.ensures, c.is_non_blink.ensures, c.sauce.ensures)
          at c.of-overview.ensures.hints;
      widths = rw (c.wants_widths.ensures, c.content-content.ensures, c.size-size.ensures) at c.other_widths.ensures;
      damage = rw c.content-content.ensures at c.of.ensures;
    }
