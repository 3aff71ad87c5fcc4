-- Byte records at the front of a trace, one more at a time.
use Rattle.std.proofs.Common.{◌≡◌, ℕ, ◌+◌, ◌*◌, ◌≤◌, List, [], ◌∷◌, ◌++◌, length, get_or, drop, Some, sym, ap, ◌∙◌, subst, arith, below_more}
use Rattle.std.proofs.lemmas.List.FromFn.{map-range_with_len_more}
use Rattle.std.proofs.lemmas.List.{append_assoc, drop-drop, get_or-drop, length-drop}
use Rattle.bench.specs.Clocked.{body, bodies, ByteRun}
use Rattle.bench.specs.Records.{record_in}
use Rattle.bench.specs.declared.record.Record.TheVariants.{Byte}

-- n byte records at the front of a trace are clocked in, behind the bytes that were there
pub record Clocking (n : ℕ) (rest left before frame : List ℕ) : Type 0 where
  pub run : ByteRun n rest
  pub on : left ≡ drop (2 * n) rest
  pub grew : frame ≡ before ++ bodies n rest
  pub inside : 2 * n ≤ length rest

-- one more
pub one_more : (n m : ℕ) (rest left before frame tail : List ℕ) (byte : ℕ) → Clocking n rest left before frame → left ≡ 1 ∷ byte ∷ tail → m ≡ n + 1 → Clocking m rest tail before (frame ++ byte ∷ [])
one_more n m rest left before frame tail byte c is e =
    let here : 1 ∷ byte ∷ tail ≡ drop (2 * n) rest = sym is ∙ c.on in
    let low = c.inside in
    let long = ap length here ∙ length-drop (2 * n) rest in
    let its : byte ≡ body rest n = ap (λ (xs : List ℕ). get_or xs 1 0) here ∙ get_or-drop (2 * n) rest 1 0 in
    record {
      run = subst (λ (k : ℕ). ByteRun k rest) (sym e) (below_more _ n c.run (ap record_in (sym here) ∙ ap (λ (b : ℕ). Some (Byte b)) its));
      on = ap (λ (xs : List ℕ). drop 2 xs) here ∙ drop-drop 2 (2 * n) rest ∙ ap (λ (k : ℕ). drop k rest) (omega arith);
      grew =
          ap (λ (xs : List ℕ). xs ++ byte ∷ []) c.grew
          ∙ append_assoc before (bodies n rest) (byte ∷ [])
          ∙ ap (λ (x : ℕ). before ++ (bodies n rest ++ x ∷ [])) its
          ∙ ap (λ (xs : List ℕ). before ++ xs) (sym (map-range_with_len_more (body rest) 0 n n (omega arith)))
          ∙ ap (λ (k : ℕ). before ++ bodies k rest) (sym e);
      inside = omega arith;
    }
