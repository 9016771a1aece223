-- The code of rules does what the rules say.
use Rattle.std.proofs.Common.{◌≡◌, ℕ, zero, suc, ◌+◌, ◌-◌, ◌*◌, ◌≤◌, List, [], ◌∷◌, ◌++◌, map, Option, None, refl, sym, subst, ap, ◌∙◌, arith}
use Rattle.run_meaning.specs.Machine.{went, ended, going, over, Run, at_start, onward, after, IsPrefix}
use Rattle.run_meaning.specs.Event.{Event, solution}
use Rattle.run_meaning.proofs.Laws.{after-add, followed_by, events_grow, over_stays, one_ending}
use Rattle.aq_term.specs.declared.proc_name.ProcName.{ProcName}
use Rattle.source_meaning.specs.Program.{Name, Program}
use Rattle.source_meaning.specs.SourceStep as source
use Rattle.bam_meaning.specs.Instruction.{Instruction, answer, fail, exec, call, return_, allocate, deallocate, try, retry, trust}
use Rattle.bam_meaning.specs.Frame.{Frame}
use Rattle.bam_meaning.specs.Choice.{Choice, env_need}
use Rattle.bam_meaning.specs.State.{State, ANSWER, FAIL}
use Rattle.bam_meaning.specs.Step.{Ending, exhausted, MachineStep, step, perform, perform_at}
use Rattle.rule_code.specs.CodeAt.{Body, Has, CallsAt, ClauseAt, LaterAt, PredicateAt}

module _ (program : Program) (image : List Instruction) (places : ProcName → ℕ) (known : ProcName → Type 0) (name_of : ProcName → Name) where
  -- the source's goals for a body
  abbrev goals_of : Body → List source.Goal
  goals_of body = map source.call (map name_of body)

  abbrev bodies_of : List Body → List (List Name)
  bodies_of bodies = map (map name_of) bodies

  -- what is done after a return to a place with these frames
  pub data Returns : ℕ → List Frame → List source.Goal → Type 0 where
    answers : Returns ANSWER [] []
    resumes : (place : ℕ) → (frame : Frame) → (frames : List Frame) → (first : ProcName) → (body : Body) → (rest : List source.Goal) → CallsAt image places known place first body → Returns frame.back frames rest → Returns place (frame ∷ frames) (goals_of (first ∷ body) ++ rest)

  -- each choice of the source is one of the machine: the same clauses are tried later, with the same to be done after them
  pub data Choices : List (List source.Goal) → List Choice → Type 0 where
    none : Choices [] []
    one_more : (choice : Choice) → (body : Body) → (bodies : List Body) → (rest : List source.Goal) → (older : List (List source.Goal)) → (choices : List Choice) → LaterAt image places known choice.alternative body bodies → Returns choice.back choice.frames rest → Choices older choices → Choices ((source.try (bodies_of (body ∷ bodies)) ∷ rest) ∷ older) (choice ∷ choices)

  -- the machine is at a state of the source
  pub data At : source.State → State → Type 0 where
    at_call : (name : ProcName) → known name → (back : ℕ) → (frames : List Frame) → (rest : List source.Goal) → (older : List (List source.Goal)) → (choices : List Choice) → (tried : ℕ) → Returns back frames rest → Choices older choices → At (record { goals = source.call (name_of name) ∷ rest; choices = older }) (record { place = places name; back = back; frames = frames; choices = choices; tried = tried })
    at_first : (place : ℕ) → (body : Body) → (bodies : List Body) → (back : ℕ) → (frames : List Frame) → (rest : List source.Goal) → (older : List (List source.Goal)) → (choices : List Choice) → (tried : ℕ) → PredicateAt image places known place body bodies → Returns back frames rest → Choices older choices → At (record { goals = source.try (bodies_of (body ∷ bodies)) ∷ rest; choices = older }) (record { place = place; back = back; frames = frames; choices = choices; tried = tried })
    at_later : (place : ℕ) → (body : Body) → (bodies : List Body) → (back : ℕ) → (frames : List Frame) → (rest : List source.Goal) → (older : List (List source.Goal)) → (choice : Choice) → (choices : List Choice) → (tried : ℕ) → LaterAt image places known place body bodies → Returns back frames rest → choice.back ≡ back → choice.frames ≡ frames → Choices older choices → At (record { goals = source.try (bodies_of (body ∷ bodies)) ∷ rest; choices = older }) (record { place = place; back = back; frames = frames; choices = choice ∷ choices; tried = tried })
    at_answer : (back : ℕ) → (older : List (List source.Goal)) → (choices : List Choice) → (tried : ℕ) → Choices older choices → At (record { goals = []; choices = older }) (record { place = ANSWER; back = back; frames = []; choices = choices; tried = tried })

  -- a number of steps without an event
  abbrev Ran : State → ℕ → State → Type 0
  Ran m k next = after (step image) k m ≡ record { events = []; work = k; stand = going next }

  ran_one : (m next : State) (instruction : Instruction) → Has image places known m.place instruction → perform instruction m ≡ went [] 1 next → Ran m 1 next
  ran_one m next instruction there does =
      let taken : step image m ≡ went [] 1 next = ap (λ (o : Option Instruction). perform_at o m) there ∙ does in
      ap (λ (t : MachineStep). onward (λ (s : State). at_start s) t) taken

  ran_on : (m next : State) (i j : ℕ) (r : Run (Event (Unit {0})) Ending State) → Ran m i next → after (step image) j next ≡ r → after (step image) (i + j) m ≡ record { events = r.events; work = i + r.work; stand = r.stand }
  ran_on m next i j r first second =
      after-add (step image) i j m ∙ ap (λ (f : Run (Event (Unit {0})) Ending State). followed_by f (after (step image) j) f.stand) first ∙ ap (λ (l : Run (Event (Unit {0})) Ending State). record { events = [] ++ l.events; work = i + l.work; stand = l.stand }) second

  ran_then : (m next last : State) (i j : ℕ) → Ran m i next → Ran next j last → Ran m (i + j) last
  ran_then m next last i j first second = ran_on m next i j (record { events = []; work = j; stand = going last }) first second

  -- the machine comes to a state of the source without an event
  record Comes (s : source.State) (least : ℕ) (m : State) : Type 0 where
    k : ℕ
    next : State
    ran : Ran m k next
    at : At s next
    some : least ≤ k

  comes_after : (s : source.State) (m next : State) → Ran m 1 next → Comes s 0 next → Comes s 1 m
  comes_after s m next first later =
      record { k = 1 + later.k; next = later.next; ran = ran_then m next later.next 1 later.k first later.ran; at = later.at; some = omega arith }

  abbrev state_of : ℕ → ℕ → List Frame → List Choice → ℕ → State
  state_of place back frames choices tried = record { place = place; back = back; frames = frames; choices = choices; tried = tried }

  -- a return comes to what is done after it
  arrives : (place back : ℕ) (frames : List Frame) (goals : List source.Goal) (older : List (List source.Goal)) (choices : List Choice) (tried : ℕ) → Returns place frames goals → Choices older choices → Comes (record { goals = goals; choices = older }) 0 (state_of place back frames choices tried)
  arrives place back frames goals older choices tried answers kept =
      record { k = 0; next = state_of ANSWER back [] choices tried; ran = refl; at = at_answer back older choices tried kept; some = omega arith }
  arrives place back frames goals older choices tried (resumes at frame below first [] rest calls returns) kept =
      let second : State = state_of (place + 1) frame.back below choices tried in
      let third : State = state_of (places first) frame.back below choices tried in
      record {
        k = 2;
        next = third;
        ran = ran_then _ second third 1 1 (ran_one _ second deallocate calls.1 refl) (ran_one second third (exec (places first)) calls.2 refl);
        at = at_call first calls.0 frame.back below rest older choices tried returns kept;
        some = omega arith;
      }
  arrives place back frames goals older choices tried (resumes at frame below first (following ∷ body) rest calls returns) kept =
      let second : State = state_of (places first) (place + 1) (frame ∷ below) choices tried in
      record {
        k = 1;
        next = second;
        ran = ran_one _ second (call (places first)) calls.1 refl;
        at = at_call first calls.0 (place + 1) (frame ∷ below) (goals_of (following ∷ body) ++ rest) older choices tried (resumes (place + 1) frame below following body rest calls.2 returns) kept;
        some = omega arith;
      }

  -- the code of a clause comes to its goals and what is done after them
  body_runs : (place back : ℕ) (frames : List Frame) (body : Body) (rest : List source.Goal) (older : List (List source.Goal)) (choices : List Choice) (tried : ℕ) → ClauseAt image places known place body → Returns back frames rest → Choices older choices → Comes (record { goals = goals_of body ++ rest; choices = older }) 1 (state_of place back frames choices tried)
  body_runs place back frames [] rest older choices tried code returns kept =
      comes_after _ _ (state_of back back frames choices tried) (ran_one _ (state_of back back frames choices tried) return_ code refl) (arrives back back frames rest older choices tried returns kept)
  body_runs place back frames (only ∷ []) rest older choices tried code returns kept =
      let second : State = state_of (places only) back frames choices tried in
      record {
        k = 1;
        next = second;
        ran = ran_one _ second (exec (places only)) code.1 refl;
        at = at_call only code.0 back frames rest older choices tried returns kept;
        some = omega arith;
      }
  body_runs place back frames (first ∷ following ∷ body) rest older choices tried code returns kept =
      let frame : Frame = record { slots = None ∷ []; back = back; start = env_need frames choices } in
      let second : State = state_of (place + 1) back (frame ∷ frames) choices tried in
      let third : State = state_of (places first) (place + 1 + 1) (frame ∷ frames) choices tried in
      record {
        k = 2;
        next = third;
        ran = ran_then _ second third 1 1 (ran_one _ second (allocate 1) code.0 refl) (ran_one second third (call (places first)) code.1.1 refl);
        at = at_call first code.1.0 (place + 1 + 1) (frame ∷ frames) (goals_of (following ∷ body) ++ rest) older choices tried (resumes (place + 1 + 1) frame frames following body rest code.1.2 returns) kept;
        some = omega arith;
      }

  -- a name that has clauses has their code at its place
  pub record Compiled (name : ProcName) : Type 0 where
    pub body : Body
    pub bodies : List Body
    pub clauses_are : source.bodies_of (name_of name) program.clauses ≡ bodies_of (body ∷ bodies)
    pub code_there : PredicateAt image places known (places name) body bodies

  -- calls that are first among the goals
  abbrev calls_first : List source.Goal → ℕ
  calls_first [] = 0
  calls_first (source.call name ∷ goals) = 1
  calls_first (source.try bodies ∷ goals) = 0

  calls_first-le : (goals : List source.Goal) → calls_first goals ≤ 1
  calls_first-le [] = omega arith
  calls_first-le (source.call name ∷ goals) = omega arith
  calls_first-le (source.try bodies ∷ goals) = omega arith

  -- the machine follows a step of the source; a step that the machine does nothing for comes to one that it does something for
  data Follows (s : source.State) (m : State) : source.SourceStep → Type 0 where
    goes : (events : List (Event (Unit {0}))) → (work : ℕ) → (next : source.State) → (k : ℕ) → (to : State) → after (step image) k m ≡ record { events = events; work = k; stand = going to } → At next to → calls_first next.goals + 1 ≤ 2 * k + calls_first s.goals → Follows s m (went events work next)
    ends : (events : List (Event (Unit {0}))) → (work : ℕ) → (k : ℕ) → after (step image) k m ≡ record { events = events; work = k; stand = over exhausted } → Follows s m (ended events work source.exhausted)

  follows_by : (s : source.State) (m : State) (work : ℕ) (next : source.State) → Comes next 1 m → Follows s m (went [] work next)
  follows_by s m work next comes =
      let few = calls_first-le next.goals in
      let some = comes.some in
      goes [] work next comes.k comes.next comes.ran comes.at (omega arith)

  comes_later : (s : source.State) (m next : State) → Ran m 1 next → Comes s 1 next → Comes s 1 m
  comes_later s m next first later =
      record { k = 1 + later.k; next = later.next; ran = ran_then m next later.next 1 later.k first later.ran; at = later.at; some = omega arith }

  stepped : (m : State) (instruction : Instruction) (taken : MachineStep) → Has image places known m.place instruction → perform instruction m ≡ taken → step image m ≡ taken
  stepped m instruction taken there does = ap (λ (o : Option Instruction). perform_at o m) there ∙ does

  two_steps : (m second : State) (events : List (Event (Unit {0}))) (taken : MachineStep) → step image m ≡ went events 1 second → step image second ≡ taken → after (step image) 2 m ≡ onward (λ (s : State). onward (λ (u : State). at_start u) taken) (went events 1 second)
  two_steps m second events taken first last =
      ap (λ (t : MachineStep). onward (after (step image) 1) t) first ∙ ap (λ (t : MachineStep). onward (λ (s : State). onward (λ (u : State). at_start u) t) (went events 1 second)) last

  module _ (answers_there : Has image places known ANSWER answer) (fails_there : Has image places known FAIL fail) (compiled : (name : ProcName) → known name → Compiled name) where
    follows : (s : source.State) (m : State) → At s m → Follows s m (source.source_step program s)
    follows s m (at_call name is_known back frames rest older choices tried returns kept) =
        let there = compiled name is_known in
        let next : source.State = record { goals = source.try (bodies_of (there.body ∷ there.bodies)) ∷ rest; choices = older } in
        rw there.clauses_are (goes [] 1 next 0 (state_of (places name) back frames choices tried) refl (at_first (places name) there.body there.bodies back frames rest older choices tried there.code_there returns kept) (omega arith))
    follows s m (at_first place body [] back frames rest older choices tried code returns kept) =
        follows_by _ _ 1 _ (body_runs place back frames body rest older choices tried code returns kept)
    follows s m (at_first place body (following ∷ bodies) back frames rest older choices tried code returns kept) =
        let choice : Choice = record { registers = []; alternative = code.0; back = back; frames = frames; env = env_need frames choices } in
        let second : State = state_of (place + 1) back frames (choice ∷ choices) (tried + 1) in
        let more = one_more choice following bodies rest older choices code.3 returns kept in
        follows_by _ _ 1 _ (comes_later _ _ second (ran_one _ second (try 0 code.0) code.1 refl) (body_runs (place + 1) back frames body rest _ (choice ∷ choices) (tried + 1) code.2 returns more))
    follows s m (at_later place body [] back frames rest older choice choices tried code returns same_back same_frames kept) =
        let second : State = state_of (place + 1) back frames choices tried in
        follows_by _ _ 1 _ (comes_later _ _ second (ran_one _ second trust code.0 refl) (body_runs (place + 1) back frames body rest older choices tried code.1 returns kept))
    follows s m (at_later place body (following ∷ bodies) back frames rest older choice choices tried code returns same_back same_frames kept) =
        let again : Choice = record choice { alternative = code.0 } in
        let second : State = state_of (place + 1) back frames (again ∷ choices) tried in
        let same_returns : Returns choice.back choice.frames rest = subst (λ (n : ℕ). Returns n choice.frames rest) (sym same_back) (subst (λ (f : List Frame). Returns back f rest) (sym same_frames) returns) in
        let more = one_more again following bodies rest older choices code.3 same_returns kept in
        follows_by _ _ 1 _ (comes_later _ _ second (ran_one _ second (retry code.0) code.1 refl) (body_runs (place + 1) back frames body rest _ (again ∷ choices) tried code.2 returns more))
    follows s m (at_answer back _ _ tried none) =
        let first : State = state_of ANSWER back [] [] tried in
        let second : State = state_of FAIL back [] [] tried in
        ends (solution tt ∷ []) 1 2 (two_steps first second (solution tt ∷ []) (ended [] 1 exhausted) (stepped first answer _ answers_there refl) (stepped second fail _ fails_there refl))
    follows s m (at_answer back _ _ tried (one_more choice body bodies rest older choices code returns kept)) =
        let first : State = state_of ANSWER back [] (choice ∷ choices) tried in
        let second : State = state_of FAIL back [] (choice ∷ choices) tried in
        let third : State = state_of choice.alternative choice.back choice.frames (choice ∷ choices) tried in
        goes (solution tt ∷ []) 1 _ 2 third (two_steps first second (solution tt ∷ []) (went [] 1 third) (stepped first answer _ answers_there refl) (stepped second fail _ fails_there refl)) (at_later choice.alternative body bodies choice.back choice.frames rest older choice choices tried code returns refl refl kept) (omega arith)

    -- more steps behind the first ones
    run_on : (m to : State) (events : List (Event (Unit {0}))) (i j : ℕ) (r : Run (Event (Unit {0})) Ending State) → after (step image) i m ≡ record { events = events; work = i; stand = going to } → after (step image) j to ≡ r → after (step image) (i + j) m ≡ record { events = events ++ r.events; work = i + r.work; stand = r.stand }
    run_on m to events i j r first second =
        after-add (step image) i j m ∙ ap (λ (f : Run (Event (Unit {0})) Ending State). followed_by f (after (step image) j) f.stand) first ∙ ap (λ (l : Run (Event (Unit {0})) Ending State). record { events = events ++ l.events; work = i + l.work; stand = l.stand }) second

    -- the machine is along with a number of the source's steps: both are on their way, or both are over
    data Along (n : ℕ) (s : source.State) (m : State) : Type 0 where
      still : (events : List (Event (Unit {0}))) → (work : ℕ) → (next : source.State) → (k : ℕ) → (to : State) → after (source.source_step program) n s ≡ record { events = events; work = work; stand = going next } → after (step image) k m ≡ record { events = events; work = k; stand = going to } → At next to → n + calls_first next.goals ≤ 2 * k + calls_first s.goals → Along n s m
      done : (events : List (Event (Unit {0}))) → (work : ℕ) → (k : ℕ) → after (source.source_step program) n s ≡ record { events = events; work = work; stand = over source.exhausted } → after (step image) k m ≡ record { events = events; work = k; stand = over exhausted } → Along n s m

    source_on : (n : ℕ) (s next : source.State) (events : List (Event (Unit {0}))) (work : ℕ) (r : Run (Event (Unit {0})) source.Ending source.State) → source.source_step program s ≡ went events work next → after (source.source_step program) n next ≡ r → after (source.source_step program) (suc n) s ≡ record { events = events ++ r.events; work = work + r.work; stand = r.stand }
    source_on n s next events work r first second =
        ap (λ (t : source.SourceStep). onward (after (source.source_step program) n) t) first ∙ ap (λ (l : Run (Event (Unit {0})) source.Ending source.State). record { events = events ++ l.events; work = work + l.work; stand = l.stand }) second

    along_more : (n : ℕ) (s next : source.State) (m to : State) (events : List (Event (Unit {0}))) (work k : ℕ) → source.source_step program s ≡ went events work next → after (step image) k m ≡ record { events = events; work = k; stand = going to } → calls_first next.goals + 1 ≤ 2 * k + calls_first s.goals → Along n next to → Along (suc n) s m
    along_more n s next m to events work k first ran less (still later steps last j end_ behind after_it at more) =
        still (events ++ later) (work + steps) last (k + j) end_ (source_on n s next events work _ first behind) (run_on m to events k j _ ran after_it) at (omega arith)
    along_more n s next m to events work k first ran less (done later steps j behind after_it) =
        done (events ++ later) (work + steps) (k + j) (source_on n s next events work _ first behind) (run_on m to events k j _ ran after_it)

    along_by : (n : ℕ) (s : source.State) (m : State) (taken : source.SourceStep) → source.source_step program s ≡ taken → Follows s m taken → ((next : source.State) (to : State) → At next to → Along n next to) → Along (suc n) s m
    along_by n s m taken e (goes events work next k to ran at less) rest =
        along_more n s next m to events work k e ran less (rest next to at)
    along_by n s m taken e (ends events work k ran) rest =
        done events work k (ap (λ (t : source.SourceStep). onward (after (source.source_step program) n) t) e) ran

    along : (n : ℕ) (s : source.State) (m : State) → At s m → Along n s m
    along zero s m at = still [] 0 s 0 m refl refl at (omega arith)
    along (suc n) s m at =
        along_by n s m (source.source_step program s) refl (follows s m at) (λ next to here. along n next to here)

    -- some number of the code's steps has the events of n steps of the source, and is over where they are
    pub record Ahead (n : ℕ) (s : source.State) (m : State) : Type 0 where
      pub k : ℕ
      pub same_events : (after (step image) k m).events ≡ (after (source.source_step program) n s).events
      pub same_end : (ending : source.Ending) → (after (source.source_step program) n s).stand ≡ over ending → (ending ≡ source.exhausted) × ((after (step image) k m).stand ≡ over exhausted)

    ahead_of : (n : ℕ) (s : source.State) (m : State) → Along n s m → Ahead n s m
    ahead_of n s m (still events work next k to behind ran at more) =
        record {
          k = k;
          same_events = ap (λ (r : Run (Event (Unit {0})) Ending State). r.events) ran ∙ sym (ap (λ (r : Run (Event (Unit {0})) source.Ending source.State). r.events) behind);
          same_end = λ ending is_over.
              let on_way : (after (source.source_step program) n s).stand ≡ going next = ap (λ (r : Run (Event (Unit {0})) source.Ending source.State). r.stand) behind in
              absurd (let bad : ⊥ = cc in bad);
        }
    ahead_of n s m (done events work k behind ran) =
        record {
          k = k;
          same_events = ap (λ (r : Run (Event (Unit {0})) Ending State). r.events) ran ∙ sym (ap (λ (r : Run (Event (Unit {0})) source.Ending source.State). r.events) behind);
          same_end = λ ending is_over.
              let there : (after (source.source_step program) n s).stand ≡ over source.exhausted = ap (λ (r : Run (Event (Unit {0})) source.Ending source.State). r.stand) behind in
              ((let e : ending ≡ source.exhausted = cc in e), ap (λ (r : Run (Event (Unit {0})) Ending State). r.stand) ran);
        }

    pub ahead : (n : ℕ) (s : source.State) (m : State) → At s m → Ahead n s m
    ahead n s m at = ahead_of n s m (along n s m at)

    -- some number of the source's steps has the events of k steps of the code among its first ones, and is over as they are
    pub record Behind (k : ℕ) (s : source.State) (m : State) : Type 0 where
      pub n : ℕ
      pub prefix : IsPrefix (after (step image) k m).events (after (source.source_step program) n s).events
      pub same_end : (ending : Ending) → (after (step image) k m).stand ≡ over ending → (ending ≡ exhausted) × ((after (source.source_step program) n s).stand ≡ over source.exhausted) × ((after (step image) k m).events ≡ (after (source.source_step program) n s).events)

    behind_of : (k n : ℕ) (s : source.State) (m : State) → n ≡ 2 * k + 1 → Along n s m → Behind k s m
    behind_of k n s m many (still events work next j to behind ran at more) =
        let few = calls_first-le s.goals in
        let longer : k + (j - k) ≡ j = omega arith in
        let grow : IsPrefix (after (step image) k m).events (after (step image) j m).events = subst (λ (l : ℕ). IsPrefix (after (step image) k m).events (after (step image) l m).events) longer (events_grow (step image) k (j - k) m) in
        let same : (after (step image) j m).events ≡ (after (source.source_step program) n s).events = ap (λ (r : Run (Event (Unit {0})) Ending State). r.events) ran ∙ sym (ap (λ (r : Run (Event (Unit {0})) source.Ending source.State). r.events) behind) in
        record {
          n = n;
          prefix = subst (λ (l : List (Event (Unit {0}))). IsPrefix (after (step image) k m).events l) same grow;
          same_end = λ ending is_over.
              let stays = over_stays (step image) k (j - k) m ending is_over in
              let there : (after (step image) j m).stand ≡ over ending = subst (λ (l : ℕ). (after (step image) l m).stand ≡ over ending) longer (ap (λ (r : Run (Event (Unit {0})) Ending State). r.stand) stays ∙ is_over) in
              let on_way : (after (step image) j m).stand ≡ going to = ap (λ (r : Run (Event (Unit {0})) Ending State). r.stand) ran in
              absurd (let bad : ⊥ = cc in bad);
        }
    behind_of k n s m many (done events work j behind ran) =
        let same : (after (step image) j m).events ≡ (after (source.source_step program) n s).events = ap (λ (r : Run (Event (Unit {0})) Ending State). r.events) ran ∙ sym (ap (λ (r : Run (Event (Unit {0})) source.Ending source.State). r.events) behind) in
        let there : (after (step image) j m).stand ≡ over exhausted = ap (λ (r : Run (Event (Unit {0})) Ending State). r.stand) ran in
        let at_end : after (step image) (j + k) m ≡ after (step image) j m = over_stays (step image) j k m exhausted there in
        let turn : k + j ≡ j + k = omega arith in
        let grow : IsPrefix (after (step image) k m).events (after (step image) (j + k) m).events = subst (λ (l : ℕ). IsPrefix (after (step image) k m).events (after (step image) l m).events) turn (events_grow (step image) k j m) in
        let source_there : (after (source.source_step program) n s).stand ≡ over source.exhausted = ap (λ (r : Run (Event (Unit {0})) source.Ending source.State). r.stand) behind in
        record {
          n = n;
          prefix = subst (λ (l : List (Event (Unit {0}))). IsPrefix (after (step image) k m).events l) (ap (λ (r : Run (Event (Unit {0})) Ending State). r.events) at_end ∙ same) grow;
          same_end = λ ending is_over.
              let one : after (step image) k m ≡ after (step image) j m = one_ending (step image) k j m ending exhausted is_over there in
              let end_is : (after (step image) k m).stand ≡ over exhausted = ap (λ (r : Run (Event (Unit {0})) Ending State). r.stand) one ∙ there in
              ((let e : ending ≡ exhausted = cc in e), source_there, ap (λ (r : Run (Event (Unit {0})) Ending State). r.events) one ∙ same);
        }

    pub behind : (k : ℕ) (s : source.State) (m : State) → At s m → Behind k s m
    behind k s m at = behind_of k (2 * k + 1) s m refl (along (2 * k + 1) s m at)
