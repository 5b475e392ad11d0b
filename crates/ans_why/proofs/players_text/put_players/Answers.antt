use Rattle.ans_why.proofs.players_text.put_players.Goals as goal

pub returns-in-InNamedColours : goal.returns-in-InNamedColours
returns-in-InNamedColours g c = rw c.in-InNamedColours.is c.put_named_colours.ensures
