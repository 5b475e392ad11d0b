-- Walks one after the other.
use Rattle.std.proofs.Common.{◌≡◌, List, [], ◌∷◌, ◌++◌, Result, Ok, Err, OnOk, IfErr, true, false, map, refl, ap, sym}
use Rattle.std.proofs.Common.{subst, append-nil, append_assoc, ◌∙◌}
use Rattle.std.proofs.lemmas.List.{reverse-append}
use Rattle.std.specs.declared.io.ErrorKind.{ErrorKind}
use Rattle.ans_folders.specs.Paths.{Place, Text, is_folder, is_taken, place_in}
use Rattle.ans_folders.specs.Walk.{Finds, Found, Hands, IsInOrder, StopsAt, Takes, Walked, after_handing, found_at}
use Rattle.ans_folders.specs.Walk.{found_of, folder_at}
use Rattle.ans_folders.specs.Pending.{pending_places, place_of}
use Rattle.ans_folders.specs.declared.walking.Pending.{Pending}
use Rattle.ans_folders.specs.Walk.Finds.{nothing, at_place, in_folder, unlisted}
use Rattle.ans_folders.specs.Walk.Found.{File, Passed, Unreadable}
use Rattle.ans_folders.specs.declared.entry.Entry.{Entry}
use Rattle.ans_folders.specs.declared.entry.Kind.{Kind}
use Rattle.ans_folders.specs.declared.entry.Kind.TheVariants as kinds
use Rattle.ans_folders.specs.declared.entry.Unread.{Unread}
use Rattle.ans_folders.specs.declared.entry.Unread.TheVariants.{Failed}
use Rattle.ans_folders.specs.declared.taken.Taken.{Taken}
use Rattle.ans_folders.specs.declared.walking.Ended.{Ended}
use Rattle.ans_folders.specs.declared.walking.Ended.TheVariants.{Stopped, Memory}

-- the place of a folder
pub folder_place : (path : Text) (kind : Kind) → is_folder kind ≡ true
    → (let place : Place = record { path = path; kind = kind } in place ≡ folder_at path)
folder_place path kinds.Folder is = refl
folder_place path kinds.File is = cc
folder_place path kinds.Other is = cc
folder_place path (kinds.Unread why) is = cc

-- what is taken off the end comes first
pub popped : (before after : List Pending) (pending : Pending) → before ≡ after ++ pending ∷ []
    → pending_places before ≡ place_of pending ∷ pending_places after
popped before after pending is = rw is (ap (map place_of) (reverse-append after (pending ∷ [])))

-- what is found before some places, and then what is found from there
pub Finds-then : {lists : Text → List Entry → Type 0} {fails : Text → ErrorKind → Type 0} {taken : Taken}
    {places middle later : List Place} {found more : List Found}
    → Finds lists fails taken places found middle → Finds lists fails taken middle more later
    → Finds lists fails taken places (found ++ more) later
Finds-then nothing next = next
Finds-then {lists} {fails} {taken} {places} {middle} {later} {found} {more}
    (at_place {place = place} {more = others} {rest = rest} is h) next =
    let P : List Found → Type 0 = λ all. Finds lists fails taken (place ∷ others) all later in
    subst P (sym (append_assoc (found_at taken place) rest more)) (at_place is (Finds-then h next))
Finds-then (in_folder is sorted h) next = in_folder is sorted (Finds-then h next)
Finds-then (unlisted is h) next = unlisted is (Finds-then h next)

module _ {V S : Type 0} (takes : V → Found → V → Type 0) (stops : V → Found → S → V → Type 0) where
  pub Takes-then : (found more : List Found) (visitor middle after : V) → Takes takes stops found visitor middle
      → Takes takes stops more middle after → Takes takes stops (found ++ more) visitor after
  Takes-then [] more visitor middle after h next =
      let P : V → Type 0 = λ v. Takes takes stops more v after in subst P (sym h) next
  Takes-then (x ∷ xs) more visitor middle after h next =
      (h.0, h.1, Takes-then xs more h.0 middle after h.2 next)

  pub StopsAt-then : (found more : List Found) (visitor middle after : V) (why : S)
      → Takes takes stops found visitor middle → StopsAt takes stops more middle after why
      → StopsAt takes stops (found ++ more) visitor after why
  StopsAt-then found more visitor middle after why h next = record {
    before = found ++ next.before;
    last = next.last;
    all = ap (λ rest. found ++ rest) next.all ∙ sym (append_assoc found next.before (next.last ∷ []));
    there = next.there;
    goes_on = Takes-then found next.before visitor middle next.there h next.goes_on;
    stopped = next.stopped;
  }

  pub takes_one : (x : Found) (visitor after : V) → takes visitor x after → Takes takes stops (x ∷ []) visitor after
  takes_one x visitor after h = (after, h, refl)

  pub stops_at_one : (x : Found) (visitor after : V) (why : S) → stops visitor x why after
      → StopsAt takes stops (x ∷ []) visitor after why
  stops_at_one x visitor after why h = record {
    before = [];
    last = x;
    all = refl;
    there = visitor;
    goes_on = refl;
    stopped = h;
  }

  pub hands_one : (x : Found) (visitor after : V) (result : Result (Unit {0}) S) → OnOk result (takes visitor x after)
      → IfErr result (λ why. stops visitor x why after) → Hands takes stops (x ∷ []) visitor after result
  hands_one x visitor after (Ok u) goes stopped = takes_one x visitor after goes
  hands_one x visitor after (Err why) goes stopped = stops_at_one x visitor after why stopped

  -- what is at a place, by what is handed to the visitor there
  pub hands_file : (taken : Taken) (path shown : Text) (kind : Kind) (visitor after : V) (result : Result (Unit {0}) S)
      → kind ≡ kinds.File → shown ≡ path → is_taken taken shown ≡ true
      → OnOk result (takes visitor (File shown) after)
      → IfErr result (λ why. stops visitor (File shown) why after)
      → Hands takes stops (found_of taken path kind) visitor after result
  hands_file taken path shown kind visitor after result is same by goes stopped =
      rw (is, sym same, by) (hands_one (File shown) visitor after result goes stopped)

  pub hands_passed : (taken : Taken) (path shown : Text) (kind : Kind) (visitor after : V)
      (result : Result (Unit {0}) S)
      → kind ≡ kinds.File → shown ≡ path → is_taken taken shown ≡ false
      → OnOk result (takes visitor (Passed shown) after)
      → IfErr result (λ why. stops visitor (Passed shown) why after)
      → Hands takes stops (found_of taken path kind) visitor after result
  hands_passed taken path shown kind visitor after result is same by goes stopped =
      rw (is, sym same, by) (hands_one (Passed shown) visitor after result goes stopped)

  pub hands_unreadable : (taken : Taken) (path shown : Text) (kind : Kind) (reason : Unread) (visitor after : V)
      (result : Result (Unit {0}) S)
      → kind ≡ kinds.Unread reason → shown ≡ path
      → OnOk result (takes visitor (Unreadable shown reason) after)
      → IfErr result (λ why. stops visitor (Unreadable shown reason) why after)
      → Hands takes stops (found_of taken path kind) visitor after result
  hands_unreadable taken path shown kind reason visitor after result is same goes stopped =
      rw (is, sym same) (hands_one (Unreadable shown reason) visitor after result goes stopped)

-- the walk through one place, and then through those after it
module _ {V S : Type 0} (lists : Text → List Entry → Type 0) (fails : Text → ErrorKind → Type 0)
    (takes : V → Found → V → Type 0) (stops : V → Found → S → V → Type 0) (taken : Taken) where
  pub Walked-then : (places middle later : List Place) (visitor there after : V) (u : Unit {0})
      (result : Result (Unit {0}) (Ended S))
      → Walked lists fails takes stops taken places middle visitor there (Ok u)
      → Walked lists fails takes stops taken middle later there after result
      → Walked lists fails takes stops taken places later visitor after result
  Walked-then places middle later visitor there after u (Ok v) h next = (
    h.0 ++ next.0,
    Finds-then h.1 next.1,
    Takes-then takes stops h.0 next.0 visitor there after h.2 next.2,
  )
  Walked-then places middle later visitor there after u (Err (Stopped why)) h next = (
    h.0 ++ next.0,
    next.1,
    Finds-then h.1 next.2,
    StopsAt-then takes stops h.0 next.0 visitor there after why h.2 next.3,
  )
  Walked-then places middle later visitor there after u (Err Memory) h next = (
    h.0 ++ next.0,
    next.1,
    Finds-then h.1 next.2,
    Takes-then takes stops h.0 next.0 visitor there after h.2 next.3,
  )

  whole_place : (place : Place) (more : List Place) → is_folder place.kind ≡ false
      → Finds lists fails taken (place ∷ more) (found_at taken place) more
  whole_place place more is =
      let P : List Found → Type 0 = λ found. Finds lists fails taken (place ∷ more) found more in
      subst P (append-nil (found_at taken place)) (at_place is nothing)

  -- the walk through a place that is no folder, by what is found there
  pub Walked-place : (place : Place) (more : List Place) (visitor after : V) (result : Result (Unit {0}) S)
      → is_folder place.kind ≡ false → Hands takes stops (found_at taken place) visitor after result
      → Walked lists fails takes stops taken (place ∷ more) more visitor after (after_handing result)
  Walked-place place more visitor after (Ok u) is h = (
    found_at taken place,
    whole_place place more is,
    h,
  )
  Walked-place place more visitor after (Err why) is h = (
    found_at taken place,
    more,
    whole_place place more is,
    h,
  )

  -- a folder that cannot be listed
  pub Walked-unlisted : (path : Text) (reason : ErrorKind) (more : List Place) (visitor after : V)
      (result : Result (Unit {0}) S)
      → fails path reason → OnOk result (takes visitor (Unreadable path (Failed reason)) after)
      → IfErr result (λ why. stops visitor (Unreadable path (Failed reason)) why after)
      → Walked lists fails takes stops taken (folder_at path ∷ more) more visitor after (after_handing result)
  Walked-unlisted path reason more visitor after (Ok u) failed goes stopped = (
    Unreadable path (Failed reason) ∷ [],
    unlisted failed nothing,
    takes_one takes stops (Unreadable path (Failed reason)) visitor after goes,
  )
  Walked-unlisted path reason more visitor after (Err why) failed goes stopped = (
    Unreadable path (Failed reason) ∷ [],
    more,
    unlisted failed nothing,
    stops_at_one takes stops (Unreadable path (Failed reason)) visitor after why stopped,
  )

  -- a folder that is listed, with its entries before the other places
  pub Walked-listed : (path : Text) (entries sorted : List Entry) (more after : List Place) (visitor : V)
      → lists path entries → IsInOrder entries sorted → after ≡ map (place_in path) sorted ++ more
      → Walked lists fails takes stops taken (folder_at path ∷ more) after visitor visitor (Ok tt)
  Walked-listed path entries sorted more after visitor listed order are = (
    [],
    (let P : List Place → Type 0 = λ later. Finds lists fails taken (folder_at path ∷ more) [] later in
        subst P (sym are) (in_folder listed order nothing)),
    refl,
  )
