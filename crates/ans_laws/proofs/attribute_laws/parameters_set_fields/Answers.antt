use Rattle.std.proofs.Common.{refl}
use Rattle.ans_laws.specs.AttributeLaws.{foreground, bright, background, blink, colour}
use Rattle.ans_laws.proofs.AttributeFieldsLemmas.{sets, sets_colour, others_change_nothing}
use Rattle.ans_laws.proofs.attribute_laws.parameters_set_fields.Goals as goal

pub returns : goal.returns
returns c = record {
  reset = sets 0 (λ a. 7) (λ a. 0) (λ a. 0) (λ a. 0) refl;
  sets_bright = sets 1 foreground (λ a. 1) background blink refl;
  sets_blue = sets 4 (λ a. 1) bright background blink refl;
  sets_blink = sets 5 foreground bright background (λ a. 1) refl;
  black_on_white = sets 7 (λ a. 0) bright (λ a. 7) blink refl;
  black_on_black = sets 8 (λ a. 0) bright (λ a. 0) blink refl;
  sets_foreground = sets_colour 30 (λ i a. colour i) (λ i. bright) (λ i. background) (λ i. blink) refl;
  sets_background = sets_colour 40 (λ i. foreground) (λ i. bright) (λ i a. colour i) (λ i. blink) refl;
  others = others_change_nothing;
}
