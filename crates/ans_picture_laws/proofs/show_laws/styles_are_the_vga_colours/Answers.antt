use Rattle.std.proofs.Common.{refl}
use Rattle.std.specs.Fmt.{digits}
use Rattle.ans_picture_laws.proofs.show_laws.styles_are_the_vga_colours.Goals as goal

pub returns : goal.returns
unfolding digits
returns c = record { foregrounds = refl; backgrounds = refl }
