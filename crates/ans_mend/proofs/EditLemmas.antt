-- What is changed of a content where it is asked for.
use Rattle.std.proofs.Common.{◌≡◌, inr, ℕ, ◌+◌, ◌-◌, ◌≤◌, Bool, true, false, List, length, Ok, Err, sym, ap, subst}
use Rattle.std.proofs.Common.{◌*◌, arith, min}
use Rattle.std.proofs.lemmas.List.{length-take-le}
use Rattle.std.specs.Prelude.{MatchBool, Option, None, IfErr, IfOk, IsTrue, Result, if◌then◌else◌}
use Rattle.ans_model.specs.Bytes.{longest_file, most_lines}
use Rattle.ans_model.specs.Screen.State.{Size, sized}
use Rattle.ans_pens.specs.declared.times.Times.{Times}
use Rattle.ans_sauce.specs.Found.{front_in}
use Rattle.ans_mend.specs.FullRows.{HasFullRows}
use Rattle.ans_mend.specs.LineEnds.{bare_feeds, line_feeds, with_line_ends}
use Rattle.ans_mend.proofs.Returns.{bare_few}
use Rattle.ans_mend.specs.NamedColours.{HasNamedColours, IsTooLongNamed, names_room}
use Rattle.ans_sauce.specs.Contents.{content_in}
use Rattle.ans_mend.specs.declared.outcome.Unmended.{Unmended}
use Rattle.ans_mend.specs.declared.outcome.Unmended.TheVariants.{TooLong}
use Rattle.ans_mend.specs.declared.taking_out.Told.{Told}
use Rattle.ans_model.specs.declared.mends.Mends.{Mends}
use Rattle.ans_mend.specs.Mending.{AreLastEndsGone, AreNamed, AreRowsJoined, AreSequencesOut, IsEdited}
use Rattle.ans_mend.specs.Mending.{TellsReturns, returned}
use Rattle.ans_mend.specs.MendingRoom.{most_added, most_returns}
use Rattle.ans_mend.specs.MendingSteps.{IsEditedTooLong, IsNamedTooLong}
use Rattle.ans_mend.proofs.NamedBound.{longer_by_names as named_bound}
use Rattle.ans_mend.proofs.MendRoomLemmas.{content_in_feeds, line_ends_length, returns_few}

-- where returns are put, there is room for them
pub returns_fit : (mends : Mends) (file : List ℕ) (room : ℕ) → mends.crlf ≡ true
    → most_returns mends (front_in file) ≤ room → bare_feeds 0 (content_in file) ≤ room
returns_fit mends file room asked fits =
    let most : line_feeds (front_in file) ≤ room = rw asked at fits in
    let few = content_in_feeds file in
    let bare = bare_few 0 (content_in file) in
    omega (arith, most, few, bare)

-- and the file is longer by no more than its line feeds
pub longer_by_returns : (mends : Mends) (file new : List ℕ) → mends.crlf ≡ true → new ≡ with_line_ends mends.mixed file
    → length new ≤ length file + most_returns mends (front_in file)
longer_by_returns mends file new asked is =
    rw asked (subst (λ (v : List ℕ). length v ≤ length file + line_feeds (front_in file)) (sym is)
    (line_ends_length mends.mixed file))

pub rows_joined : (mends : Mends) (z : Size) (file joined : List ℕ) (times : Option Times) → mends.join_rows ≡ true
    → HasFullRows mends.mixed (sized z.width most_lines) file joined times → AreRowsJoined mends z file joined times
rows_joined mends z file joined times asked rows =
    subst (λ (b : Bool). MatchBool b (HasFullRows mends.mixed (sized z.width most_lines) file joined times)
    ((joined ≡ file) × (times ≡ None))) (sym asked) rows

pub colours_named : (mends : Mends) (file new : List ℕ) (times : Option Times) → mends.name_colours ≡ true
    → HasNamedColours file new times → AreNamed mends file new times
colours_named mends file new times asked named =
    subst (λ (b : Bool). MatchBool b (HasNamedColours file new times) ((new ≡ file) × (times ≡ None))) (sym asked) named

pub named_if : (mends : Mends) (file new : List ℕ) (r : Result (Option Times) Unmended) → mends.name_colours ≡ true
    → IfOk r (HasNamedColours file new) → IfOk r (AreNamed mends file new)
named_if mends file new (Ok times) asked named = colours_named mends file new times asked named
named_if mends file new (Err reason) asked named = tt

-- with the names that are asked for it would be too long
pub too_many_names : (mends : Mends) (file : List ℕ) (P : Type 0) (r : Result (Option Times) Unmended)
    → mends.name_colours ≡ true → IfErr r (λ reason. P × (reason ≡ TooLong) × IsTooLongNamed file longest_file)
    → IfErr r (λ reason. (reason ≡ TooLong) × IsNamedTooLong mends file)
too_many_names mends file P (Ok times) asked long = tt
too_many_names mends file P (Err reason) asked (same, is, (new, times, named, more)) =
    (is, (new, times, colours_named mends file new times asked named, more))

-- with the content changed
module _ (mends : Mends) (z : Size) (file returned_file out joined ended : List ℕ) (returns row_ends last_ends : Option
    Times) (told : Told) (put : TellsReturns mends file returns) (returned_is : returned_file ≡ returned mends file)
    (sequences : AreSequencesOut mends returned_file out told) (rows : AreRowsJoined mends z out joined row_ends)
    (ends : AreLastEndsGone mends z joined ended last_ends) (fits : length returned_file ≤ longest_file) where
  pub edited_so : (new : List ℕ) (named : Option Times) → AreNamed mends ended new named
      → IsEdited mends z file new (record {
        returns = returns;
        told = told;
        row_ends = row_ends;
        last_ends = last_ends;
        named_colours = named;
      })
  edited_so new named are_named = record {
    returns = put;
    fits = subst (λ (v : List ℕ). length v ≤ longest_file) returned_is fits;
    out = out;
    sequences = subst (λ (v : List ℕ). AreSequencesOut mends v out told) returned_is sequences;
    joined = joined;
    rows = rows;
    ended = ended;
    ends = ends;
    named = are_named;
  }

  pub edited_too_long : (reason : Unmended) → (reason ≡ TooLong) × IsNamedTooLong mends ended
      → IsEditedTooLong mends z file reason
  edited_too_long reason (is, (new, times, are_named, long)) =
      (is, inr (new, _, edited_so new times are_named, long))

-- ---- of a file to which returns were put, and of which something was taken out
module _ (mends : Mends) (old ended : List ℕ)
    (shorter : length ended ≤ length old + most_returns mends (front_in old)) where
  front_long : length (front_in old) ≡ length old - 128
  front_long = length-take-le (length old - 128) old (omega arith)

  -- with its names it is no longer than they can make it
  pub longer_by_names : (new : List ℕ) (times : Option Times) → AreNamed mends ended new times
      → length new ≤ longest_file → length new ≤ length old + most_added mends old
  longer_by_names new times named long = go mends.name_colours named
    where
      go : (asked : Bool) → MatchBool asked (HasNamedColours ended new times) ((new ≡ ended) × (times ≡ None))
          → length new ≤ length old + (most_returns mends (front_in old)
          + (if asked then min (longest_file - length old) (8 * length (front_in old)) else 0))
      go true named =
          let more = named_bound ended new times named in
          let front = front_long in
          let few = returns_few mends (front_in old) in
          omega (arith, long, more, front, few, shorter)
      go false (same, none) = let as_long = ap length same in omega (arith, as_long, shorter)

  -- and there is room for them
  pub names_fit : (was now : ℕ) → length ended + now ≡ length old + was → most_added mends old ≤ was
      → IsTrue mends.name_colours → names_room ended ≤ now
  names_fit was now sum fits asked =
      let front = front_long in
      let returns = returns_few mends (front_in old) in
      let most : most_returns mends (front_in old)
      + min (longest_file - length old) (8 * length (front_in old)) ≤ was = rw asked at fits in
      omega (arith, sum, most, front, returns, shorter)
