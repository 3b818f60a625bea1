-- `set_payload`, `get_rx_payload`, `get_rx_packet_status`.
use Rattle.std.specs.Prelude.{Bool, true, false, List, [], ◌∷◌, ℕ, leb, length, get_or, pos, Ok}
use Rattle.sheets.specs.declared.Variant.{Variant}
use Rattle.sheets.specs.declared.Variant.TheVariants.{Sx1272, Sx1276}
use Rattle.sheets.specs.Registers.{reg_fifo_addr_ptr, reg_payload_length, reg_rx_nb_bytes, reg_fifo_rx_current_addr, reg_pkt_snr_value, reg_pkt_rssi_value, reg_frf_msb, reg_frf_mid, reg_frf_lsb}
use Rattle.sheets.specs.Frequency.{frf}
use Rattle.sheets.specs.Signal.{snr, offset, rssi}
use Rattle.params.specs.declared.mod_params.RadioError.TheVariants.{PayloadSizeMismatch}
use Rattle.params.specs.Errors.{Told, told, refusal}
use Rattle.refusals.specs.Refusals.{payload_length}
use Rattle.bus.specs.Steps.{Step, Read, Write, FifoRead, FifoWrite, end_after}
use Rattle.bus.specs.Call.{Outcome, call, call_fifo, settled, admitted_fifo, well}

-- ---- a payload to send

abbrev pub sending : List ℕ → List Step
sending bytes = Write reg_fifo_addr_ptr 0 ∷ Write reg_payload_length 0 ∷ FifoWrite bytes ∷ Write reg_payload_length (length bytes) ∷ []

-- the payload is read and stays as it is
abbrev pub set_payload : List ℕ → List ℕ → List ℕ → List ℕ → ℕ → Outcome
set_payload bytes im fifo log used = call_fifo (payload_length (length bytes)) well (sending bytes) im fifo log bytes used

-- ---- a packet received

-- how many bytes, and where they start
abbrev pub received : List ℕ → ℕ
received im = get_or im reg_rx_nb_bytes 0

abbrev pub start_of : List ℕ → ℕ
start_of im = get_or im reg_fifo_rx_current_addr 0

abbrev pub fetching : ℕ → ℕ → List Step
fetching start n = Read reg_rx_nb_bytes ∷ Read reg_fifo_rx_current_addr ∷ Write reg_fifo_addr_ptr start ∷ FifoRead n ∷ Write reg_fifo_addr_ptr 0 ∷ []

-- a buffer that is too small: the length is read, and 13 tells both
abbrev pub fetch_told : Bool → ℕ → ℕ → Told
fetch_told true n room = told 0 (pos n ∷ [])
fetch_told false n room = refusal (PayloadSizeMismatch n room)

abbrev pub fetch_steps : Bool → ℕ → ℕ → List Step
fetch_steps true start n = fetching start n
fetch_steps false start n = Read reg_rx_nb_bytes ∷ []

-- room is asked for all five records, whichever way it goes
abbrev pub get_payload : List ℕ → List ℕ → List ℕ → List ℕ → ℕ → Outcome
get_payload im fifo log buffer used =
    let n = received im in
    let fits = leb n (length buffer) in
    settled (admitted_fifo (Ok tt) (end_after (fetching (start_of im) n) im used) im fifo log used)
    (fetch_told fits n (length buffer)) (fetch_steps fits (start_of im) n) im fifo log buffer used

-- ---- its signal

abbrev pub frf_read : Variant → List Step
frf_read Sx1272 = []
frf_read Sx1276 = Read reg_frf_msb ∷ Read reg_frf_mid ∷ Read reg_frf_lsb ∷ []

abbrev pub measuring : Variant → List Step
measuring v = Read reg_pkt_snr_value ∷ Read reg_pkt_rssi_value ∷ frf_read v

-- the count that RegFrf holds
abbrev pub tuned : List ℕ → ℕ
tuned im = frf (get_or im reg_frf_msb 0) (get_or im reg_frf_mid 0) (get_or im reg_frf_lsb 0)

abbrev pub measured : Variant → List ℕ → Told
measured v im =
    told 0 (rssi (offset v (tuned im)) (get_or im reg_pkt_snr_value 0) (get_or im reg_pkt_rssi_value 0) ∷ snr (get_or im reg_pkt_snr_value 0) ∷ [])

abbrev pub get_status : Variant → List ℕ → List ℕ → ℕ → Outcome
get_status v im = call (Ok tt) (measured v im) (measuring v) im
