-- The room that plays one after the other take.
use Rattle.std.proofs.Common.{◌≡◌, ◌∙◌, ℕ, List, length, Ok, Err, ap, refl, subst, sym}
use Rattle.std.specs.Prelude.{◌↔◌, Result, IsOk, IsErr}
use Rattle.ans_model.specs.File.Layout.{FileParts}
use Rattle.ans_model.specs.File.Record.{stated_size}
use Rattle.ans_model.specs.Screen.State.{Size}
use Rattle.ans_model.proofs.AcceptedFiles.{one_layout}
use Rattle.ans_sauce.specs.declared.parts.Parts.{Parts}
use Rattle.ans_sauce.specs.Split.{IsSplit}
use Rattle.ans_sauce.specs.Parts.{size_of}
use Rattle.ans_verdict.specs.LentScreen.{HasScreen, byte_count, row_count}
use Rattle.ans_verdict.specs.ScreenRoom.{AnswersWithin, KeepsRoom, TakesRoom}
use Rattle.ans_verdict.specs.declared.screens.LentScreens.{LentScreens}

-- nothing was played
pub keeps_itself : {S : Type 0} {has_room may_lack : S → Size → Type 0} {z : Size} {a : S}
    → KeepsRoom has_room may_lack z a a
keeps_itself = record { kept = λ h. h; lacked = λ h. h }

-- one more was played
pub keeps_then : {S : Type 0} {has_room may_lack : S → Size → Type 0} {z : Size} {a b c : S}
    → KeepsRoom has_room may_lack z a b → KeepsRoom has_room may_lack z b c → KeepsRoom has_room may_lack z a c
keeps_then p q = record { kept = λ h. q.kept (p.kept h); lacked = λ h. p.lacked (q.lacked h) }

-- what is so of the last play is so of all
pub takes_then : {S T E : Type 0} {has_room may_lack : S → Size → Type 0} {z : Size} {a b c : S} {r : Result T E}
    → KeepsRoom has_room may_lack z a b → TakesRoom has_room may_lack z b c r → TakesRoom has_room may_lack z a c r
takes_then p q = record {
  keeps = keeps_then p q.keeps;
  room = λ h. q.room (p.kept h);
  want = λ e. p.lacked (q.want e);
}

not_both : {T E : Type 0} (r : Result T E) → IsOk r → IsErr r → ⊥
not_both (Ok v) ok err = cc
not_both (Err e) ok err = cc

-- want of room is handed on
pub takes_err : {S T U E D : Type 0} {has_room may_lack : S → Size → Type 0} {z : Size} {a b : S} {r : Result T E}
    {lost : Result U D}
    → TakesRoom has_room may_lack z a b r → IsErr r → IsErr lost → TakesRoom has_room may_lack z a b lost
takes_err {r = r} p is told = record {
  keeps = p.keeps;
  room = λ h. absurd (not_both r (p.room h) is);
  want = λ _. p.want is;
}

-- an answer that came
pub takes_ok : {S T E : Type 0} {has_room may_lack : S → Size → Type 0} {z : Size} {a b : S} {v : T}
    → KeepsRoom has_room may_lack z a b → TakesRoom {E = E} has_room may_lack z a b (Ok v)
takes_ok p = record { keeps = p; room = λ _. refl; want = λ told. absurd (cc) }

-- memory that is lent stays as it is
pub keeps_lent : (z : Size) (old new : LentScreens) → length new.rows.now ≡ length old.rows.now
    → length new.bytes.now ≡ length old.bytes.now
    → KeepsRoom (λ s z. HasScreen z (row_count s) (byte_count s)) (λ s z. ¬ HasScreen z (row_count s) (byte_count s)) z
    old new
keeps_lent z old new rows bytes = record {
  kept = λ h. rw (rows, bytes) h;
  lacked = λ h k. h (rw (rows, bytes) k);
}

-- where an answer comes exactly where the memory that is lent has room
pub takes_lent : {T E : Type 0} (r : Result T E) (z : Size) (old new : LentScreens)
    → length new.rows.now ≡ length old.rows.now → length new.bytes.now ≡ length old.bytes.now
    → (IsOk r ↔ HasScreen z (row_count old) (byte_count old))
    → TakesRoom (λ s y. HasScreen y (row_count s) (byte_count s)) (λ s y. ¬ HasScreen y (row_count s) (byte_count s)) z
    old new r
takes_lent r z old new rows bytes exact = record {
  keeps = keeps_lent z old new rows bytes;
  room = λ h. exact.1 h;
  want = λ err h. not_both r (exact.1 h) err;
}

-- want of room is handed on, whatever the answer would have been
pub within_err : {S T U E D : Type 0} {has_room may_lack : S → Size → Type 0} {a : S} {r : Result T E}
    {lost : Result U D} (file : List ℕ) → AnswersWithin has_room may_lack file a r → IsErr r → IsErr lost
    → AnswersWithin has_room may_lack file a lost
within_err {r = r} file p is told = record {
  room = λ apart accepts h. absurd (not_both r (p.room apart accepts h) is);
  want = λ _. p.want is;
}

-- the room that plays of a file's parts take is that which the file's record states
pub within_file : {S T E : Type 0} {has_room may_lack : S → Size → Type 0} {a b : S} {r : Result T E} (file : List ℕ)
    (parts : Parts)
    → IsSplit file parts → TakesRoom has_room may_lack (size_of parts) a b r
    → AnswersWithin has_room may_lack file a r
within_file {has_room = has_room} {may_lack = may_lack} {a = a} file parts s t =
    let size : size_of parts ≡ stated_size s.apart.record_bytes = ap stated_size s.shows.sauce in
    record {
      room = λ apart accepts h.
          let same : apart ≡ s.apart = one_layout file apart s.apart accepts.laid s.accepts.laid in
          t.room (subst (has_room a) (ap (λ (v : FileParts). stated_size v.record_bytes) same ∙ sym size) h);
      want = λ e. (s.apart, s.accepts, subst (may_lack a) size (t.want e));
    }
