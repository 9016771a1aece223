-- The stages of the front, one after the other.
use Rattle.std.proofs.Common.{◌≡◌, ◌+◌, ℕ, true, false, IsTrue, List, [], ◌∷◌, ◌++◌, Option, Some, None, Result, Ok, Err, is_some, length, refl, ap, sym, ◌∙◌, subst, append_assoc}
use Rattle.std.specs.Prelude.{IfOk, IfErr, OnOk}
use Rattle.aq_base.specs.declared.refusal.ReadKind.{ReadKind}
use Rattle.aq_base.specs.declared.refusal.ReadKind.TheVariants as kinds
use Rattle.aq_base.specs.declared.refusal.Refusal.{Refusal}
use Rattle.aq_base.specs.declared.refusal.Refusal.TheVariants as refusal
use Rattle.aq_term.specs.declared.entry.Entry.{Entry}
use Rattle.aq_term.specs.declared.read_term.ReadTerm.{ReadTerm}
use Rattle.prolog_tokens.specs.Layout.{Gap}
use Rattle.prolog_tokens.specs.Scan.{without_end}
use Rattle.prolog_tokens.specs.declared.placed.Placed.{Placed}
use Rattle.prolog_reader.specs.Brackets.{too_many_open}
use Rattle.source_program.specs.TextRefusals.{IsTextRefusal}
use Rattle.source_program.specs.TextRefusals.{IsFaultBy as IsGatherFaultBy}
use Rattle.source_program.specs.declared.fault.GatherFault.{GatherFault}
use Rattle.source_program.specs.declared.fault.GatherFault.TheVariants as gathered
use Rattle.aquarius_top.specs.declared.front.FrontFault.{FrontFault}
use Rattle.aquarius_top.specs.declared.front.FrontFault.TheVariants as front
use Rattle.aquarius_top.specs.AnalyseReply.{IsProgramRefusal}
use Rattle.aquarius_top.specs.FrontRefusal.{AreClauses, AreRead, IsReading, IsReadAs, IsProgramText, IsQueryRefusal, FrontRefuses}
use Rattle.aquarius_top.specs.BamReply.{IsBamRefusal}
use Rattle.aquarius_top.specs.FrontFault.{IsFaultBy, IsStop, IsNoReading, ReadsSoFar, front_of}

unread_more : (clauses : List (List Placed)) (cause : Refusal) (tokens : List Placed) → IsNoReading clauses cause → IsNoReading (clauses ++ tokens ∷ []) cause
unread_more clauses _ tokens (IsNoReading.unread clause kind u) =
    IsNoReading.unread clause kind
    (record {
      before = u.before;
      tokens = u.tokens;
      after = u.after ++ tokens ∷ [];
      split = ap (λ (l : List (List Placed)). l ++ tokens ∷ []) u.split ∙ append_assoc u.before (u.tokens ∷ u.after) (tokens ∷ []);
      number = u.number;
      reads = u.reads;
      read = u.read;
      brackets = u.brackets;
    })

-- behind a clause without a reading nothing changes
pub reads_later : (clauses : List (List Placed)) (reads : List ReadTerm) (found : Option Refusal) (tokens : List Placed) → true ≡ is_some found →
    ReadsSoFar clauses reads found → ReadsSoFar (clauses ++ tokens ∷ []) reads found
reads_later clauses reads None tokens some so = cc
reads_later clauses reads (Some cause) tokens some so = unread_more clauses cause tokens so

-- one more clause that was read
pub reads_more : {A E : Type 0} (done : Result A E) (clauses : List (List Placed)) (reads new : List ReadTerm) (found : Option Refusal) (tokens : List Placed) (read : ReadTerm) →
    false ≡ is_some found → ReadsSoFar clauses reads found → IsReading tokens read → OnOk done (new ≡ reads ++ read ∷ []) →
    OnOk done (ReadsSoFar (clauses ++ tokens ∷ []) new found)
reads_more (Err e) clauses reads new found tokens read none so reading push = tt
reads_more (Ok a) clauses reads new (Some cause) tokens read none so reading push = cc
reads_more (Ok a) clauses reads new None tokens read none so reading push =
    subst (λ (l : List ReadTerm). AreRead (clauses ++ tokens ∷ []) l) (sym push) (AreRead.more clauses reads tokens read so reading)

-- the first clause without a reading
pub reads_end : (clauses : List (List Placed)) (reads : List ReadTerm) (found : Option Refusal) (tokens : List Placed) (clause : ℕ) (kind : ReadKind) →
    false ≡ is_some found → ReadsSoFar clauses reads found → length clauses + 1 ≡ clause →
    (IsTrue (too_many_open 0 (without_end tokens)) → kind ≡ kinds.Depth) →
    IsNoReading (clauses ++ tokens ∷ []) (refusal.Read clause kind)
reads_end clauses reads (Some cause) tokens clause kind none so number brackets = cc
reads_end clauses reads None tokens clause kind none so number brackets =
    IsNoReading.unread clause kind
    (record { before = clauses; tokens = tokens; after = []; split = refl; number = sym number; reads = reads; read = so; brackets = brackets })

stop_text : (cause : Refusal) (text query : List ℕ) (clauses : List (List Placed)) (from clause : ℕ) → IsStop text from clause cause →
    AreClauses text clauses from → clause ≡ length clauses + 1 → FrontRefuses text query cause
stop_text _ text query clauses from clause (IsStop.stop at stops) chain number =
    FrontRefuses.token clause at (record { before = clauses; end = from; chain = chain; number = number; stops = stops })

-- tokens that stop
pub stop_refused : (fault : FrontFault) (text query : List ℕ) (clauses : List (List Placed)) (from clause : ℕ) → IsFaultBy (IsStop text from clause) fault →
    AreClauses text clauses from → clause ≡ length clauses + 1 → IsFaultBy (FrontRefuses text query) fault
stop_refused (front.Refused cause) text query clauses from clause h chain number = stop_text cause text query clauses from clause h chain number
stop_refused front.Memory text query clauses from clause h chain number = tt

-- the clauses of a whole text that were read
pub read_whole : {E : Type 0} (done : Result (List ReadTerm) E) (text : List ℕ) (clauses : List (List Placed)) (end : ℕ) → AreClauses text clauses end →
    Gap text end (length text) → IfOk done (λ reads. ReadsSoFar clauses reads None) → IfOk done (λ reads. IsReadAs text reads)
read_whole (Ok reads) text clauses end chain gap so = record { clauses = clauses; tokenized = record { end = end; chain = chain; gap = gap }; read = so }
read_whole (Err e) text clauses end chain gap so = tt

unread_text : (cause : Refusal) (text query : List ℕ) (clauses : List (List Placed)) (end : ℕ) → AreClauses text clauses end →
    Gap text end (length text) → IsNoReading clauses cause → FrontRefuses text query cause
unread_text _ text query clauses end chain gap (IsNoReading.unread clause kind u) =
    FrontRefuses.unread clause kind clauses (record { end = end; chain = chain; gap = gap }) u

unread_fault : (fault : FrontFault) (text query : List ℕ) (clauses : List (List Placed)) (end : ℕ) → AreClauses text clauses end →
    Gap text end (length text) → IsFaultBy (IsNoReading clauses) fault → IsFaultBy (FrontRefuses text query) fault
unread_fault (front.Refused cause) text query clauses end chain gap h = unread_text cause text query clauses end chain gap h
unread_fault front.Memory text query clauses end chain gap h = tt

-- the first clause without a reading, where all clauses have tokens
pub unread_refused : {A : Type 0} (done : Result A FrontFault) (text query : List ℕ) (clauses : List (List Placed)) (end : ℕ) → AreClauses text clauses end →
    Gap text end (length text) → IfErr done (IsFaultBy (IsNoReading clauses)) → IfErr done (IsFaultBy (FrontRefuses text query))
unread_refused (Ok a) text query clauses end chain gap h = tt
unread_refused (Err fault) text query clauses end chain gap h = unread_fault fault text query clauses end chain gap h

-- what the clauses are refused for
pub program_refused : (fault : GatherFault) (text query : List ℕ) (reads : List ReadTerm) → IsReadAs text reads →
    IsGatherFaultBy (IsTextRefusal reads) fault → IsFaultBy (FrontRefuses text query) (front_of fault)
program_refused (gathered.Refused cause) text query reads read h = FrontRefuses.program reads cause read h
program_refused gathered.Memory text query reads read h = tt

-- what the query is refused for
pub query_refused : (fault : FrontFault) (text query : List ℕ) (entries : List Entry) → IsProgramText text entries →
    IsFaultBy (IsQueryRefusal query entries) fault → IsFaultBy (FrontRefuses text query) fault
query_refused (front.Refused cause) text query entries program h = FrontRefuses.query entries cause program h
query_refused front.Memory text query entries program h = tt

-- what a program is refused for, whatever the query
pub program_fault : (fault : FrontFault) (text : List ℕ) → ((query : List ℕ) → IsFaultBy (FrontRefuses text query) fault) →
    IsFaultBy (IsProgramRefusal text) fault
program_fault (front.Refused cause) text refused = refused
program_fault front.Memory text refused = tt

-- a refusal of the program whatever the query is one where its code is asked for
pub bam_fault : (fault : FrontFault) (text : List ℕ) → ((query : List ℕ) → IsFaultBy (FrontRefuses text query) fault) →
    IsFaultBy (IsBamRefusal text) fault
bam_fault (front.Refused cause) text refused = IsBamRefusal.front cause refused
bam_fault front.Memory text refused = tt
