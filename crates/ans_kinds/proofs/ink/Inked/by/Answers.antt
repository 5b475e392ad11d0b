use Rattle.std.proofs.Common.{◌≡◌, ℕ, suc, ◌+◌, Bool, List, ◌∷◌, drop, fold, sym, ap, ◌∙◌, arith, drop-cons}
use Rattle.std.specs.Prelude.{◌&&◌, slice_index}
use Rattle.std.specs.List.{list_all}
use Rattle.std.proofs.Math.Bool.{and_assoc}
use Rattle.ans_model.specs.Screen.Attribute.{attribute_after_all}
use Rattle.ans_players.specs.Names as name
use Rattle.ans_players.specs.Names.{names_behind}
use Rattle.ans_players.specs.Situations.{is_common_colour}
use Rattle.ans_kinds.specs.NamesShown.{shown_names}
use Rattle.ans_kinds.proofs.ink.Inked.by.Goals as goal

pub loop-number-preserved : goal.loop-number-preserved
loop-number-preserved c =
    let numbers = c.args.numbers.now in
    let i = c.loop-number.number-index in
    let inked = c.loop-number.inked in
    let later = drop (i + 1) numbers in
    let h = c.loop-number.invariant in
    let more = c.with-inked.ensures in
    let next : drop i numbers ≡ slice_index numbers i ∷ drop (i + 1) numbers =
    (let e : i + 1 ≡ suc i = omega arith in rw e (drop-cons numbers i 0 c.loop-number-test.true)) in
    record {
      attribute = ap (λ (a : ℕ). attribute_after_all a later) more.attribute
          ∙ sym (ap (λ (v : List ℕ). attribute_after_all inked.attribute v) next) ∙ h.attribute;
      names = ap (λ (n : name.Names). fold names_behind n later) more.names
          ∙ sym (ap (λ (v : List ℕ). fold names_behind (shown_names inked.names) v) next) ∙ h.names;
      common = ap (λ (b : Bool). b && list_all is_common_colour later) more.common
          ∙ and_assoc inked.are_common (is_common_colour (slice_index numbers i)) (list_all is_common_colour later)
          ∙ sym (ap (λ (v : List ℕ). inked.are_common && list_all is_common_colour v) next) ∙ h.common;
    }
