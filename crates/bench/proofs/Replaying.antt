-- A replay step by step: what is owed before and after.
use Rattle.std.proofs.Common.{◌≡◌, ℕ, zero, suc, ◌+◌, ◌*◌, ◌≤◌, true, false, List, [], ◌∷◌, ◌++◌, length, drop, Some, None, sym, refl, ap, ◌∙◌, subst, inl, inr, add-zero, add-one, arith}
use Rattle.std.proofs.lemmas.List.FromFn.{length-map-range_with_len, map-range_with_len_more}
use Rattle.std.proofs.lemmas.List.{append-nil, append_assoc, drop-drop, length-append, nil_from_length}
use Rattle.std.proofs.lemmas.Bool.{and_from, lt-ltb, cond-true, cond-false, cases_Bool}
use Rattle.bench.specs.Clocked.{body, bodies, ByteRun, Clocked}
use Rattle.bench.specs.Plays.{OnBench, allowed, played, printed}
use Rattle.bench.specs.Records.{record_in, record_length, lines_of}
use Rattle.bench.specs.Replays.{Place, Owes, Piece, last_text}
use Rattle.bench.specs.Report.{Prints, ends, ends_low, no_record, not-now, goes_on}
use Rattle.bench.specs.Texts.{fault_text}
use Rattle.bench.specs.declared.record.Record.{Record}
use Rattle.bench.specs.declared.record.Record.TheVariants.{Byte}

-- the same text at equal places
at_place : (s s' : OnBench) (n n' at at' : ℕ) (rest rest' text : List ℕ) → s ≡ s' → n ≡ n' → at ≡ at' → rest ≡ rest' → Prints s n at rest text → Prints s' n' at' rest' text
at_place s s' n n' at at' rest rest' text a b d e p =
    subst (λ (z : List ℕ). Prints s' n' at' z text) e
    (subst (λ (z : ℕ). Prints s' n' z rest text) d
    (subst (λ (z : ℕ). Prints s' z at rest text) b
    (subst (λ (z : OnBench). Prints z n at rest text) a p)))

-- the bench with another frame
framed : OnBench → List ℕ → OnBench
framed s xs = record { chip = s.chip; selected = s.selected; frame = xs }

-- m byte records of a run print nothing
run_owes : (m n : ℕ) (s : OnBench) (lines at : ℕ) (rest text : List ℕ) → s.selected ≡ true → ByteRun n rest → m ≤ n → length s.frame + n ≤ 4096 → Prints (framed s (s.frame ++ bodies m rest)) lines (at + 2 * m) (drop (2 * m) rest) text → Prints s lines at rest text
unfolding framed
run_owes zero n s lines at rest text low run le room p =
    at_place _ s lines lines (at + 2 * 0) at rest rest text (ap (λ (xs : List ℕ). framed s xs) (append-nil s.frame)) refl (add-zero at) refl p
run_owes (suc m) n s lines at rest text low run le room p =
    let b = body rest m in
    let here = s.frame ++ bodies m rest in
    let l : length (s.frame ++ bodies m rest) ≡ length s.frame + m = length-append s.frame (bodies m rest) ∙ ap (λ (k : ℕ). length s.frame + k) (length-map-range_with_len (body rest) 0 m) in
    let more : s.frame ++ bodies (suc m) rest ≡ here ++ b ∷ [] =
    ap (λ (xs : List ℕ). s.frame ++ xs) (ap (λ (k : ℕ). bodies k rest) (sym (add-one m)) ∙ map-range_with_len_more (body rest) 0 m m (omega arith))
    ∙ sym (append_assoc s.frame (bodies m rest) (b ∷ [])) in
    let on : drop (2 * suc m) rest ≡ drop 2 (drop (2 * m) rest) = let e : 2 * suc m ≡ 2 * m + 2 = omega arith in ap (λ (k : ℕ). drop k rest) e ∙ sym (drop-drop 2 (2 * m) rest) in
    run_owes m n s lines at rest text low run (omega arith) room
    (goes_on {r = Byte b} (run m (omega arith)) (and_from _ _ low (lt-ltb _ _ (omega arith)))
    (at_place (framed s (s.frame ++ bodies (suc m) rest)) (framed s (here ++ b ∷ [])) lines (lines + 0) (at + 2 * suc m) (at + 2 * m + 2) (drop (2 * suc m) rest) (drop 2 (drop (2 * m) rest)) text
    (ap (λ (xs : List ℕ). framed s xs) more) (omega arith) (omega arith) on p))

same_bench : (a b : OnBench) → a.chip ≡ b.chip → a.selected ≡ b.selected → a.frame ≡ b.frame → a ≡ b
same_bench a b e f g i = record { chip = e i; selected = f i; frame = g i }

-- byte records clocked in at once: as much is owed after them as before
pub clocked_owes : (trace rest : List ℕ) (p : Place) (b : OnBench) (n : ℕ) → p.bench.selected ≡ true → rest ≡ drop p.offset trace → Clocked n rest p.bench.frame b.frame → b.chip ≡ p.bench.chip → b.selected ≡ p.bench.selected → (text : List ℕ) → Owes trace (record { bench = b; offset = p.offset + 2 * n; lines = p.lines }) text → Owes trace p text
unfolding framed
clocked_owes trace rest p b n low is run chip selected text o =
    let s = p.bench in
    let at = p.offset in
    let l : length b.frame ≡ length p.bench.frame + n = ap length run.grew ∙ length-append s.frame (bodies n rest) ∙ ap (λ (k : ℕ). length s.frame + k) (length-map-range_with_len (body rest) 0 n) in
    let room = run.room in
    let here : drop (at + 2 * n) trace ≡ drop (2 * n) rest = sym (drop-drop (2 * n) at trace) ∙ ap (λ (xs : List ℕ). drop (2 * n) xs) (sym is) in
    at_place s s p.lines p.lines at at rest (drop at trace) text refl refl refl is
    (run_owes n n s p.lines at rest text low run.run (omega arith) (omega arith)
    (at_place b (framed s (s.frame ++ bodies n rest)) p.lines p.lines (at + 2 * n) (at + 2 * n) (drop (at + 2 * n) trace) (drop (2 * n) rest) text
    (same_bench b (framed s (s.frame ++ bodies n rest)) chip selected run.grew) refl refl here o))

-- the trace is at its end
pub owes_last : (trace rest : List ℕ) (p : Place) → rest ≡ drop p.offset trace → length rest ≡ 0 → Owes trace p (last_text p)
owes_last trace rest p is none =
    let empty : drop p.offset trace ≡ [] = sym is ∙ nil_from_length rest none in
    elim (cases_Bool p.bench.selected) [
      | inl low ↦ subst (λ (t : List ℕ). Owes trace p t) (sym (cond-true p.bench.selected _ _ low)) (ends_low empty low)
      | inr high ↦ subst (λ (t : List ℕ). Owes trace p t) (sym (cond-false p.bench.selected _ _ high)) (ends empty high)
    ]

-- no record begins here
pub owes_fault : (trace rest : List ℕ) (p : Place) → rest ≡ drop p.offset trace → (length rest ≡ 0 → ⊥) → record_in rest ≡ None → Owes trace p (fault_text p.offset)
owes_fault trace rest p is some none = no_record (λ e. some (ap length (is ∙ e))) (ap record_in (sym is) ∙ none)

-- the record may not come now
pub owes_refused : (trace rest : List ℕ) (p : Place) (r : Record) → rest ≡ drop p.offset trace → record_in rest ≡ Some r → allowed r p.bench ≡ false → Owes trace p (fault_text p.offset)
owes_refused trace rest p r is found no_way = not-now {r = r} (ap record_in (sym is) ∙ found) no_way

-- the record is played
pub owes_on : (trace rest : List ℕ) (p : Place) (b : OnBench) (r : Record) (len lines : ℕ) → rest ≡ drop p.offset trace → record_in rest ≡ Some r → allowed r p.bench ≡ true → b ≡ played r p.bench → len ≡ record_length r → lines ≡ lines_of r → (more : List ℕ) → Owes trace (record { bench = b; offset = p.offset + len; lines = p.lines + lines }) more → Owes trace p (printed r (p.lines + 1) p.bench ++ more)
owes_on trace rest p b r len lines is found may new long printed-lines more o =
    let at = p.offset in
    goes_on {r = r} (ap record_in (sym is) ∙ found) may
    (at_place b (played r p.bench) (p.lines + lines) (p.lines + lines_of r) (at + len) (at + record_length r) (drop (at + len) trace) (drop (record_length r) (drop at trace)) more
    new (ap (λ (k : ℕ). p.lines + k) printed-lines) (ap (λ (k : ℕ). at + k) long) (ap (λ (k : ℕ). drop (at + k) trace) long ∙ sym (drop-drop (record_length r) at trace)) o)

-- the last piece
pub last_piece : (trace : List ℕ) (before between after : Place) (out out' text : List ℕ) → ((t : List ℕ) → Owes trace between t → Owes trace before t) → out' ≡ out ++ text → Owes trace between text → Piece trace before after out out' false
last_piece trace before between after out out' text same wrote o = record { text = text; wrote = wrote; owed = same text o }

-- a piece with more to come
pub next_piece : (trace : List ℕ) (before between after : Place) (out out' text : List ℕ) → ((t : List ℕ) → Owes trace between t → Owes trace before t) → out' ≡ out ++ text → ((rest : List ℕ) → Owes trace after rest → Owes trace between (text ++ rest)) → Piece trace before after out out' true
next_piece trace before between after out out' text same wrote o = record { text = text; wrote = wrote; owed = λ rest p. same (text ++ rest) (o rest p) }
