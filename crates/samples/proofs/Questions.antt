-- Questions to the definitions of specs/, each with the answer in numbers that they give.
use Prim.Native.Nat.{ℕ, suc}
use mathlib.Core.Bool.{Bool, true, false}
use mathlib.Core.List.{List, [], ◌∷◌, ◌++◌}
use lib.IntN.{ℤ, pos, negsuc}
use lib.ListN.{replicate}
use Rattle.basics.specs.declared.Written.{Written}
use Rattle.checksum.specs.Checksum.{checksum_of}
use Rattle.septet.specs.Answer.{extracted, injected}
use Rattle.septet.specs.declared.Septets.{Septets}
use Rattle.stream.specs.Validation.{number, validation_of}
use Rattle.stream.specs.declared.Validation.{Validation}
use Rattle.stream.specs.declared.Verdict.{Verdict}
use Rattle.record.specs.Record.{Record, record_of}
use Rattle.record.specs.Encode.{unwritable, encoding_of}
use Rattle.record.specs.Encode as Encodings
use Rattle.record.specs.Value.{value_of}
use Rattle.record.specs.declared.Header.{Header}
use Rattle.recording.specs.Next.{next_of, payload_after}
use Rattle.recording.specs.Normalize.{normalizing_of}
use Rattle.recording.specs.Normalize as Normals
use Rattle.recording.specs.declared.Found.{Found}
use Rattle.receiver.specs.Receive.{received_of, reset_of}
use Rattle.receiver.specs.Receive as Receptions
use Rattle.receiver.specs.declared.Receiver.{Receiver}
use Rattle.receiver.specs.declared.Received.{Received}
use Rattle.diagnosis.specs.Fault.{next_fault}
use Rattle.diagnosis.specs.declared.Fault.{Fault}
use Rattle.sections.specs.Answer.{section_count, section_found, section_shown, element_count, element_found, element_shown}
use Rattle.sections.specs.Element.{temperature_of}
use Rattle.sections.specs.declared.Count.{Count}
use Rattle.sections.specs.declared.Part.{Part}
use Rattle.slave_id.specs.SlaveId.{slave_id_of, written_of}
use Rattle.slave_id.specs.SlaveId as SlaveIds
use Rattle.slave_id.specs.declared.SlaveId.{SlaveId}
use Rattle.slave_plans.specs.Answer.{enter_refusal, entered, found_of, change_refusal, changed, remove_refusal, removed}
use Rattle.slave_plans.specs.History.{Operation, Enter, Find, Change, Remove, table_of, answers_of, own_history}
use Rattle.slave_plans.specs.declared.Slave.{Slave}
use Rattle.slave_plans.specs.declared.Found as SlaveFound
use Rattle.slave_figures.specs.Keeping.{figures_of, enter_kept, entered_by, remove_kept, check_of}
use Rattle.slave_figures.specs.History.{State}
use Rattle.slave_figures.specs.History as Keepings
use Rattle.slave_figures.specs.declared.Figures.{Figures}
use Rattle.slave_figures.specs.declared.Checked.{Checked}

-- an output is given by its room
pub data Question : Type 0 where
  checksum : List ℕ → Question
  extract : List ℕ → ℕ → Question
  inject : List ℕ → ℕ → ℕ → Question
  validate : List ℕ → Question
  read : List ℕ → Question
  carry : Record → Question
  encode : Record → ℕ → Question
  value : List ℕ → Question
  next : List ℕ → ℕ → ℕ → Question
  receive : Receiver → List ℕ → List ℕ → ℕ → Question
  reset : Receiver → Question
  fault : List ℕ → ℕ → Question
  normalize : List ℕ → ℕ → Question
  sections : Header → List ℕ → Question
  section : Header → List ℕ → ℕ → Question
  elements : Header → List ℕ → ℕ → Question
  element : Header → List ℕ → ℕ → ℕ → Question
  temperature : List ℕ → Question
  read_slave_id : Record → Question
  write_slave_id : ℕ → ℕ → ℕ → ℕ → ℕ → Question
  enter_slave : Slave → List Slave → Question
  find_slave : Bool → ℕ → List Slave → Question
  change_slave : Bool → ℕ → ℕ → List Slave → Question
  remove_slave : Bool → ℕ → List Slave → Question
  answered : Bool → List Operation → Question
  left : List Operation → Question
  owned : Bool → List Operation → Question
  count_figures : List Slave → Question
  enter_by : Figures → Slave → List Slave → Question
  remove_by : Figures → Bool → ℕ → List Slave → Question
  check_figures : Figures → List Slave → Question
  answered_by : Bool → List Operation → Question
  answered_from : Bool → Figures → List Slave → List Operation → Question
  left_by : List Operation → Question
  left_from : Figures → List Slave → List Operation → Question
  owned_by : Bool → List Operation → Question
  verdict : Verdict → Question

-- an output before a call
abbrev pub untouched : ℕ → List ℕ
untouched room = replicate room 0xEE

abbrev septets_told : Septets → List ℕ
septets_told b = b.number ∷ b.length ∷ b.septet ∷ b.bytes

abbrev header_told : Header → List ℕ
header_told h = h.version ∷ h.destination ∷ h.source ∷ h.command ∷ []

-- the sign and the magnitude
abbrev signed_told : ℤ → List ℕ
signed_told (pos n) = 0 ∷ n ∷ []
signed_told (negsuc n) = 1 ∷ suc n ∷ []

abbrev bool_told : Bool → ℕ
bool_told true = 1
bool_told false = 0

abbrev validation_told : Validation → List ℕ
validation_told a = a.verdict ∷ a.offset ∷ a.unused_septets ∷ []

abbrev written_told : Written → List ℕ
written_told a = a.number ∷ a.length ∷ []

abbrev next_told : Found → List ℕ
next_told a = a.number ∷ bool_told a.found ∷ a.position ∷ a.length ∷ (header_told a.header ++ (a.payload_length ∷ []))

abbrev receiver_told : Receiver → List ℕ
receiver_told r = r.held ∷ r.position ∷ []

abbrev received_told : Received → List ℕ
received_told a =
    a.number ∷ bool_told a.found ∷ a.used ∷ a.position ∷ a.length ∷ (header_told a.header ++ (a.payload_length ∷ receiver_told a.receiver))

abbrev fault_told : Fault → List ℕ
fault_told f =
    bool_told f.found ∷ f.place ∷ f.verdict ∷ f.offset ∷ bool_told f.has_byte ∷ f.byte ∷ bool_told f.has_wanted ∷ f.wanted ∷ []

abbrev count_told : Count → List ℕ
count_told c = c.number ∷ c.count ∷ []

abbrev part_told : Part → List ℕ
part_told p = p.number ∷ p.start ∷ p.length ∷ []

abbrev slave_id_told : SlaveId → List ℕ
slave_id_told s = s.number ∷ s.product ∷ s.device ∷ s.week ∷ s.serial ∷ []

abbrev slave_found_told : SlaveFound.Found → List ℕ
slave_found_told f = f.number ∷ f.product ∷ f.device ∷ []

-- every entry of a table
abbrev pub table_told : List Slave → List ℕ
table_told [] = []
table_told (e ∷ rest) = e.address ∷ bool_told e.owner ∷ e.product ∷ e.device ∷ table_told rest

abbrev pub figures_told : Figures → List ℕ
figures_told f = f.no ∷ f.yes ∷ f.lowest ∷ []

abbrev checked_told : Checked → List ℕ
checked_told c = c.number ∷ bool_told c.right ∷ []

abbrev state_told : State → List ℕ
state_told s = figures_told s.figures ++ table_told s.table

-- an owner's answers in a history
abbrev answers_told : List (Operation × SlaveFound.Found) → List ℕ
answers_told [] = []
answers_told ((operation, found) ∷ rest) = slave_found_told found ++ answers_told rest

-- an owner's own history, with its 16s
abbrev operation_told : Operation → List ℕ
operation_told (Enter s) = 0 ∷ table_told (s ∷ [])
operation_told (Find o a) = 1 ∷ bool_told o ∷ a ∷ []
operation_told (Change o from to) = 2 ∷ bool_told o ∷ from ∷ to ∷ []
operation_told (Remove o a) = 3 ∷ bool_told o ∷ a ∷ []

abbrev pub own_told : List (Operation × Bool) → List ℕ
own_told [] = []
own_told ((operation, sixteen) ∷ rest) = operation_told operation ++ (bool_told sixteen ∷ own_told rest)

abbrev pub answer : Question → List ℕ
answer (checksum block) = checksum_of block ∷ []
answer (extract block n) = septets_told (extracted block n)
answer (inject block n septet) = septets_told (injected block n septet)
answer (validate s) = validation_told (validation_of s)
answer (read s) = header_told (record_of s).header ++ (record_of s).payload
answer (carry r) = unwritable r ∷ []
answer (encode r room) = written_told (encoding_of r room) ++ Encodings.output_after r (untouched room)
answer (value payload) = signed_told (value_of payload)
answer (next s start room) = next_told (next_of s start room) ++ payload_after s start (untouched room)
answer (receive receiver memory chunk room) = received_told (received_of receiver memory chunk room) ++ Receptions.output_after receiver memory chunk (untouched room)
answer (reset receiver) = receiver_told (reset_of receiver)
answer (fault s start) = fault_told (next_fault s start)
answer (normalize s room) = written_told (normalizing_of s room) ++ Normals.output_after s (untouched room)
answer (sections h payload) = count_told (section_count h payload)
answer (section h payload k) = part_told (section_found h payload k) ++ section_shown h payload k
answer (elements h payload k) = count_told (element_count h payload k)
answer (element h payload k i) = part_told (element_found h payload k i) ++ element_shown h payload k i
answer (temperature bytes) = signed_told (temperature_of bytes)
answer (read_slave_id r) = slave_id_told (slave_id_of r)
answer (write_slave_id destination source product device room) =
    written_told (written_of destination source product device room) ++ SlaveIds.output_after destination source product device (untouched room)
answer (enter_slave s t) = enter_refusal s t ∷ table_told (entered s t)
answer (find_slave o a t) = slave_found_told (found_of o a t)
answer (change_slave o from to t) = change_refusal o from to t ∷ table_told (changed o from to t)
answer (remove_slave o a t) = remove_refusal o a t ∷ table_told (removed o a t)
answer (answered o history) = answers_told (answers_of o history)
answer (left history) = table_told (table_of history)
answer (owned o history) = own_told (own_history o history)
answer (count_figures t) = figures_told (figures_of t)
answer (enter_by f s t) = let kept = enter_kept f s t in kept.number ∷ (figures_told kept.figures ++ table_told (entered_by f s t))
answer (remove_by f o a t) = let kept = remove_kept f o a t in kept.number ∷ (figures_told kept.figures ++ table_told (removed o a t))
answer (check_figures f t) = checked_told (check_of f t)
answer (answered_by o history) = answers_told (Keepings.answers_of o history)
answer (answered_from o f t history) = answers_told (Keepings.answers_from o (record { table = t; figures = f }) history)
answer (left_by history) = state_told (Keepings.state_of history)
answer (left_from f t history) = state_told (Keepings.state_from (record { table = t; figures = f }) history)
answer (owned_by o history) = own_told (Keepings.own_history o history)
answer (verdict v) = number v ∷ []

-- a question and the answer that the papers give
abbrev pub Row : Type 0
Row = Question × List ℕ

-- a refused writing
abbrev pub refused : ℕ → ℕ → List ℕ
refused number room = number ∷ 0 ∷ untouched room
