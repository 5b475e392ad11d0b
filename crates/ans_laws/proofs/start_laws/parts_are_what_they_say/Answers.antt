use Rattle.std.proofs.Common.{refl}
use Rattle.ans_laws.proofs.ClassStarts.{free}
use Rattle.ans_laws.proofs.start_laws.parts_are_what_they_say.Goals as goal

pub returns : goal.returns
returns c = record {
  screen = λ z s. (
    λ start. (start.well_formed, start.screen refl),
    λ h. record { well_formed = h.0; screen = λ k. h.1; cursor = free; saved = free; attribute = free; wrap = free },
  );
  cursor = λ z s. (
    λ start. (start.well_formed, start.cursor refl),
    λ h. record { well_formed = h.0; screen = free; cursor = λ k. h.1; saved = free; attribute = free; wrap = free },
  );
  saved = λ z s. (
    λ start. (start.well_formed, start.saved refl),
    λ h. record { well_formed = h.0; screen = free; cursor = free; saved = λ k. h.1; attribute = free; wrap = free },
  );
  colours = λ z s. (
    λ start. (start.well_formed, start.attribute refl),
    λ h. record { well_formed = h.0; screen = free; cursor = free; saved = free; attribute = λ k. h.1; wrap = free },
  );
  wrap = λ z s. (
    λ start. (start.well_formed, start.wrap refl),
    λ h. record { well_formed = h.0; screen = free; cursor = free; saved = free; attribute = free; wrap = λ k. h.1 },
  );
}
