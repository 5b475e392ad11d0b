-- What is found, by the refusal that applies first.
use Rattle.std.proofs.Common.{◌≡◌, ◌≢◌, ◌⊎◌, inl, inr, ℕ, ◌+◌, ◌≤◌, Bool, true, false, List, [], ◌∷◌, length, take}
use Rattle.std.proofs.Common.{refl, sym, ap, ◌∙◌, arith, Option, Some, None, codes, ◌-◌, ◌<◌, zero, suc}
use Rattle.std.proofs.lemmas.Bool.{cases_lt}
use Rattle.std.specs.Prelude.{◌↔◌, IsTrue, is_some}
use Rattle.std.proofs.lemmas.List.{length-take, get_or-take}
use Rattle.ans_model.specs.declared.fault.Cause.{Cause}
use Rattle.ans_model.specs.declared.fault.Cause.TheVariants.{NoRecord, WrongVersion, WrongKind, CommentsMissing}
use Rattle.ans_model.specs.declared.fault.Cause.TheVariants.{LinesUnstated, WidthTooLarge, LinesTooLarge}
use Rattle.ans_model.specs.declared.fault.Cause.TheVariants.{BytesAfterEndMark}
use Rattle.ans_model.specs.declared.fault.Fault.{Fault}
use Rattle.ans_model.specs.File.Refusals.{Refusal, fault_at, first_refusal, refusals, record_fault, has_record}
use Rattle.memchr.specs.Find.{OccursAt, FindsLastNeedle, IsLast}
use Rattle.ans_sauce.specs.Found.{CountsAt, IsRecordAt, IsLastRecord, record_in, front_in, HoldsRecord}

-- ---- which refusal applies
same_cause : (o : Option Fault) (f g : Fault) → Some g ≡ Some f → f.cause ≡ g.cause
same_cause o f g e = ap (λ (x : Option Fault). cause_of x) (sym e)
  where
    cause_of : Option Fault → Cause
    cause_of None = NoRecord
    cause_of (Some h) = h.cause

-- one of them has this cause
abbrev IsCauseOf : List Refusal → Cause → Type 0
IsCauseOf [] cause = ⊥
IsCauseOf (r ∷ rs) cause = (cause ≡ r.cause) ⊎ IsCauseOf rs cause

one_of_them : (rs : List Refusal) (f : Fault) → first_refusal rs ≡ Some f → IsCauseOf rs f.cause
one_of_them [] f e = absurd (cc e)
one_of_them (r ∷ rs) f e = here r.applies refl (one_of_them rs f)
  where
    here : (b : Bool) → r.applies ≡ b → (first_refusal rs ≡ Some f → IsCauseOf rs f.cause)
        → (f.cause ≡ r.cause) ⊎ IsCauseOf rs f.cause
    here true applies more = inl (same_cause None f (fault_at r.offset r.cause) (rw applies at e))
    here false applies more = inr (more (rw applies at e))

pub bytes_after : (file : List ℕ) (f : Fault) → has_record file ≡ true → record_fault file ≡ Some f
    → f.cause ≢ WrongVersion → f.cause ≢ WrongKind → f.cause ≢ CommentsMissing → f.cause ≢ LinesUnstated
    → f.cause ≢ WidthTooLarge → f.cause ≢ LinesTooLarge → f.cause ≡ BytesAfterEndMark
bytes_after file f there e version kind comments lines width too_long =
    elim (one_of_them (refusals (front_in file) (record_in file)) f (rw there at e)) [
      | inl is ↦ absurd (version is)
      | inr others ↦ elim others [
        | inl is ↦ absurd (kind is)
        | inr others ↦ elim others [
          | inl is ↦ absurd (comments is)
          | inr others ↦ elim others [
            | inl is ↦ absurd (lines is)
            | inr others ↦ elim others [
              | inl is ↦ absurd (width is)
              | inr others ↦ elim others [
                | inl is ↦ absurd (too_long is)
                | inr others ↦ elim others [ inl is ↦ is | inr none ↦ absurd none ]
              ]
            ]
          ]
        ]
      ]
    ]

-- ---- where a record stands
module _ (bytes : List ℕ) (end : ℕ) (room : end + 121 ≡ length bytes) where
  size : length (take end bytes) ≡ end
  size = simp length-take (omega (arith, room))

  record_at : (place : ℕ) → OccursAt (take end bytes) (codes "SAUCE00") place → IsRecordAt bytes place
  record_at place h =
      let fits : place + 7 ≤ end = omega (arith, h.fits, size) in
      record {
        id = record {
          fits = omega (arith, fits, room);
          reads = λ j lt. sym (get_or-take end bytes (place + j) 0 (omega (arith, fits, lt))) ∙ h.reads j lt;
        };
        whole = omega (arith, fits, room);
      }

  occurs_at : (place : ℕ) → IsRecordAt bytes place → OccursAt (take end bytes) (codes "SAUCE00") place
  occurs_at place h =
      let fits : place + 7 ≤ end = omega (arith, h.whole, room) in
      record {
        fits = omega (arith, fits, size);
        reads = λ j lt. get_or-take end bytes (place + j) 0 (omega (arith, fits, lt)) ∙ h.id.reads j lt;
      }

  pub last_identifier : (r : Option ℕ) → FindsLastNeedle (take end bytes) (codes "SAUCE00") r
      → IsLast (IsRecordAt bytes) 0 (length bytes) r
  last_identifier None none = λ k low lt h. none k low (omega (arith, h.whole, room, size)) (occurs_at k h)
  last_identifier (Some place) (after, here) = (
    record {
      low = omega arith;
      high = omega (arith, (record_at place here).whole);
      after = λ k low lt h. after.after k low (omega (arith, h.whole, room, size)) (occurs_at k h);
    },
    record_at place here,
  )

-- ---- records that overlap
module _ (bytes : List ℕ) (end : ℕ) (within : end ≤ length bytes) where
  front_size : length (take end bytes) ≡ end
  front_size = simp length-take (omega (arith, within))

  -- one in the front
  in_all : (place : ℕ) → IsRecordAt (take end bytes) place → IsRecordAt bytes place
  in_all place h =
      let fits : place + 128 ≤ end = omega (arith, h.whole, front_size) in
      record {
        id = record {
          fits = omega (arith, fits, within);
          reads = λ j lt. sym (get_or-take end bytes (place + j) 0 (omega (arith, fits, lt))) ∙ h.id.reads j lt;
        };
        whole = omega (arith, fits, within);
      }

  in_front : (place : ℕ) → place + 128 ≤ end → IsRecordAt bytes place → IsRecordAt (take end bytes) place
  in_front place fits h = record {
    id = record {
      fits = omega (arith, fits, front_size);
      reads = λ j lt. get_or-take end bytes (place + j) 0 (omega (arith, fits, lt)) ∙ h.id.reads j lt;
    };
    whole = omega (arith, fits, front_size);
  }

-- the last one before a place
module _ (bytes : List ℕ) (place : ℕ) (within : place + 128 ≤ length bytes) where
  abbrev end : ℕ
  end = place + 127

  end_within : end ≤ length bytes
  end_within = omega (arith, within)

  pub none_before : IsLast (IsRecordAt (take end bytes)) 0 (length (take end bytes)) None
      → IsLast (IsRecordAt bytes) (place - 127) place None
  none_before none = λ k low lt h.
      let size = front_size bytes end end_within in
      none k (omega arith) (omega (arith, lt, size)) (in_front bytes end end_within k (omega (arith, lt)) h)

  pub near_before : (earlier : ℕ) → IsLast (IsRecordAt (take end bytes)) 0 (length (take end bytes)) (Some earlier)
      → place - earlier < 128 → IsLast (IsRecordAt bytes) (place - 127) place (Some earlier)
  near_before earlier (after, here) near =
      let size = front_size bytes end end_within in
      let whole = here.whole in (
        record {
          low = omega (arith, near);
          high = omega (arith, whole, size);
          after = λ k low lt h. after.after k low (omega (arith, lt, size))
              (in_front bytes end end_within k (omega (arith, lt)) h);
        },
        in_all bytes end end_within earlier here,
      )

  pub far_before : (earlier : ℕ) → IsLast (IsRecordAt (take end bytes)) 0 (length (take end bytes)) (Some earlier)
      → 128 ≤ place - earlier → IsLast (IsRecordAt bytes) (place - 127) place None
  far_before earlier (after, here) far = λ k low lt h.
      let size = front_size bytes end end_within in
      after.after k (omega (arith, low, far)) (omega (arith, lt, size))
      (in_front bytes end end_within k (omega (arith, lt)) h)

-- none after the place counts
abbrev pub NoneCountsAfter : List ℕ → ℕ → Type 0
NoneCountsAfter bytes place = (k : ℕ) → place < k → k < length bytes → ¬ CountsAt bytes k

-- a record, after which none counts
pub record IsReached (bytes : List ℕ) (place : ℕ) : Type 0 where
  pub is_record : IsRecordAt bytes place
  pub none : NoneCountsAfter bytes place

-- the last one
pub last_is_reached : (bytes : List ℕ) (place : ℕ) → IsLast (IsRecordAt bytes) 0 (length bytes) (Some place)
    → IsReached bytes place
last_is_reached bytes place (after, here) = record {
  is_record = here;
  none = λ k lt high h. after.after k (omega (arith, lt)) high h.is_record;
}

-- and the one before that it overlaps
pub earlier_is_reached : (bytes : List ℕ) (place earlier : ℕ) → IsReached bytes place
    → IsLast (IsRecordAt bytes) (place - 127) place (Some earlier) → IsReached bytes earlier
earlier_is_reached bytes place earlier h (after, here) = record {
  is_record = here;
  none = λ k lt high counts. elim (cases_lt k place) [
    | inl before ↦ after.after k (omega (arith, lt)) before counts.is_record
    | inr down ↦ elim (cases_lt place k) [
      | inl behind ↦ h.none k behind high counts
      | inr up ↦ counts.apart earlier (omega (arith, lt)) (omega (arith, down, up, after.low, after.high)) here
    ]
  ];
}

-- it is the last that counts, if it overlaps none before it
pub reached_is_last : (bytes : List ℕ) (place : ℕ) → IsReached bytes place
    → IsLast (IsRecordAt bytes) (place - 127) place None → IsLastRecord bytes (Some place)
reached_is_last bytes place h none = (
  record {
    low = omega arith;
    high = omega (arith, h.is_record.whole);
    after = λ k low high counts. h.none k (omega (arith, low)) high counts;
  },
  record {
    is_record = h.is_record;
    apart = λ earlier before near is. none earlier (omega (arith, near)) before is;
  },
)

-- where there is no record, none counts
pub none_counts : (bytes : List ℕ) → IsLast (IsRecordAt bytes) 0 (length bytes) None → IsLastRecord bytes None
none_counts bytes none = λ k low high counts. none k low high counts.is_record

-- where none counts there is none, since the first of those that overlap would
never : (bytes : List ℕ) → IsLastRecord bytes None → (bound place : ℕ) → place ≤ bound → ¬ IsRecordAt bytes place
never bytes none zero place below h = none place (omega arith) (omega (arith, h.whole)) (record {
  is_record = h;
  apart = λ earlier before near is. omega (arith, before, below);
})
never bytes none (suc b) place below h = none place (omega arith) (omega (arith, h.whole)) (record {
  is_record = h;
  apart = λ earlier before near is. never bytes none b earlier (omega (arith, before, below)) is;
})

-- there is a last record exactly where there is one
pub some_last : (bytes : List ℕ) (r : Option ℕ) → IsLastRecord bytes r → IsTrue (is_some r) ↔ HoldsRecord bytes
some_last bytes None none = (λ t. absurd (cc t), λ h. absurd (never bytes none h.0 h.0 (omega arith) h.1))
some_last bytes (Some place) last = (λ t. (place, last.1.is_record), λ h. refl)
