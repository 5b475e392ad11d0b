-- A scanner that has taken bytes one by one which are no token yet.
use Rattle.std.proofs.Common.{◌≡◌, inl, ℕ, ◌+◌, ◌<◌, List, [], ◌∷◌, ◌++◌, length, take, drop, suc, get_or}
use Rattle.std.proofs.Common.{sym, ◌∙◌, arith, None, append_assoc}
use Rattle.std.proofs.Math.Seq.{split_at}
use Rattle.std.proofs.lemmas.List.{length-take-le}
use Rattle.ans_model.specs.declared.fault.Fault.{Fault}
use Rattle.ans_tokens.specs.ScannerView.{ScannerView, Holds, RefusesByte}
use Rattle.ans_tokens.specs.Walk.{IsFaultAt}

-- it holds all of these bytes, the first of which stands at this offset
pub record HoldsAll (offset : ℕ) (bytes : List ℕ) (s : ScannerView) : Type 0 where
  pub holds : Holds s bytes
  pub offset_is : s.offset ≡ offset + length bytes
  pub unrefused : s.fault ≡ None

module _ (offset : ℕ) (bytes : List ℕ) (i : ℕ) (within : i < length bytes) (old : ScannerView)
    (h : HoldsAll offset (take i bytes) old) where
  taken : length (take i bytes) ≡ i
  taken = length-take-le i bytes (omega (arith, within))

  -- the next byte is refused
  pub refused_there : (fault : Fault) → RefusesByte old (get_or bytes i 0) fault → IsFaultAt offset bytes fault
  refused_there fault refuses =
      let told = refuses (take i bytes) h.holds in
      let byte : List ℕ = get_or bytes i 0 ∷ [] in
      record {
        offset_is = omega (arith, told.starts, taken, h.offset_is);
        unread = inl (record {
          text = take i bytes ++ byte;
          rest = drop (suc i) bytes;
          whole = split_at bytes i 0 within ∙ sym (append_assoc (take i bytes) byte (drop (suc i) bytes));
          refused = told.refused;
        });
      }
