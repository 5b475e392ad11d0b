-- The table of effects holds what each number below 48 does, and the others do nothing.
use Rattle.std.proofs.Common.{◌≡◌, ℕ, ◌<◌, ◌^◌, Option, Some, None, sym, ap, subst, ◌∙◌, arith, refl}
use Rattle.std.proofs.Common.{List, map, get_or}
use Rattle.std.specs.Prelude.{◌==◌, MatchOption, bit_and, bit_or}
use Rattle.std.specs.Int.Bits.{or_zero_r}
use Rattle.std.specs.List.{range_with_len}
use Rattle.std.proofs.lemmas.List.FromFn.{get_or-map-range_with_len}
use Rattle.ans_model.specs.Screen.Attribute.{Rendition, renditions, rendition_of, attribute_by}
use Rattle.ans_model.proofs.AttributeBytes.{all_kept}
use Rattle.ans_players.specs.Names.{is_within}
use Rattle.ans_players.specs.Situations.{is_common_colour}
use Rattle.ans_kinds.specs.declared.ink.Effect.{Effect}
use Rattle.ans_kinds.specs.declared.ink.TheConstants.{EFFECTS}

-- the effect sets what a rendition does, or leaves all as it is where there is none
abbrev pub IsEffectBy : Option Rendition → Effect → Type 0
IsEffectBy o effect = MatchOption o ((effect.mask ≡ 0xFF) × (effect.set ≡ 0x00))
    (λ (r : Rendition). (effect.mask ≡ r.mask) × (effect.set ≡ r.set))

abbrev effect_by : Option Rendition → ℕ → Effect
effect_by None n = record {
  mask = 0xFF;
  set = 0x00;
  is_zero = n == 0;
  is_foreground = is_within 30 37 n;
  is_background = is_within 40 47 n;
  is_common = is_common_colour n;
}
effect_by (Some r) n = record {
  mask = r.mask;
  set = r.set;
  is_zero = n == 0;
  is_foreground = is_within 30 37 n;
  is_background = is_within 40 47 n;
  is_common = is_common_colour n;
}

-- what a number does
pub record HasEffect (n : ℕ) (effect : Effect) : Type 0 where
  pub attribute : IsEffectBy (rendition_of renditions n) effect
  pub zero : effect.is_zero ≡ (n == 0)
  pub foreground : effect.is_foreground ≡ is_within 30 37 n
  pub background : effect.is_background ≡ is_within 40 47 n
  pub common : effect.is_common ≡ is_common_colour n

has_effect : (n : ℕ) (o : Option Rendition) → rendition_of renditions n ≡ o → HasEffect n (effect_by o n)
has_effect n None is =
    record { attribute = rw is (refl, refl); zero = refl; foreground = refl; background = refl; common = refl }
has_effect n (Some r) is =
    record { attribute = rw is (refl, refl); zero = refl; foreground = refl; background = refl; common = refl }

table : map (λ n. effect_by (rendition_of renditions n) n) (range_with_len 0 48) ≡ EFFECTS.now
table = refl

pub in_table : (n : ℕ) (none : Effect) → n < 48 → HasEffect n (get_or EFFECTS.now n none)
in_table n none l =
    subst (HasEffect n) (sym (ap (λ (effects : List Effect). get_or effects n none) (sym table)
    ∙ get_or-map-range_with_len (λ p. effect_by (rendition_of renditions p) p) 0 48 n n none l (omega arith)))
    (has_effect n (rendition_of renditions n) refl)

-- an attribute by what a number does to it
pub attribute_by_effect : (o : Option Rendition) (a : ℕ) (effect : Effect) → a < 2 ^ 8 → IsEffectBy o effect
    → bit_or (bit_and a effect.mask) effect.set ≡ attribute_by o a
attribute_by_effect None a effect h (m, s) = rw (m, s, or_zero_r (bit_and a 255)) (all_kept a h)
attribute_by_effect (Some r) a effect h (m, s) = rw (m, s) refl
