-- How the program ends: its status, and its line on standard error.
use Rattle.std.specs.Prelude.{ℕ, List, [], ◌∷◌, ◌++◌, Bool, true, false, Result, Ok, Err, codes}
use Rattle.ls_frame.specs.declared.fault.FrameFault.{FrameFault}
use Rattle.ls_frame.specs.declared.fault.FrameFault.TheVariants.{HeaderTooLong, BadHeader, NoLength, TwoLengths, BadLength, TooLarge, Truncated, Memory as NoMemory}
use Rattle.abnf_cert.specs.declared.fault.CertFault.{CertFault}
use Rattle.abnf_cert.specs.declared.fault.CertFault.TheVariants as cert
use Rattle.ls_session.specs.declared.turn.Status.{Status}
use Rattle.ls_session.specs.declared.turn.Status.TheVariants as status
use Rattle.ls_devices.specs.declared.fault.ServeFault.{ServeFault}
use Rattle.ls_devices.specs.declared.fault.ServeFault.TheVariants.{Read, Write, Strayed, Memory}
use Rattle.text_files.specs.declared.file.FileFault.{FileFault}
use Rattle.text_files.specs.declared.file.FileFault.TheVariants as file
use Rattle.ls_program.specs.declared.ending.Ending.{Ending}
use Rattle.ls_program.specs.declared.ending.Ending.TheVariants.{Good, Not, Framing, Full, ReadFailed, WriteFailed, CannotRead, NotText, Certificate, HasStrayed, Usage, OutOfMemory}

-- the ending of a session
abbrev pub ending_of_session : Result Status ServeFault → Ending
ending_of_session (Ok status.Clean) = Good
ending_of_session (Ok status.Unclean) = Not
ending_of_session (Ok (status.BadFrame fault)) = Framing fault
ending_of_session (Ok status.Full) = Full
ending_of_session (Err Read) = ReadFailed
ending_of_session (Err Write) = WriteFailed
ending_of_session (Err Strayed) = HasStrayed
ending_of_session (Err Memory) = OutOfMemory

-- the ending of a command that can't use the file with this path, by the file's fault
abbrev pub ending_of_file : FileFault → List ℕ → Ending
ending_of_file file.CannotRead path = CannotRead path
ending_of_file file.NotText path = NotText path
ending_of_file file.Memory path = OutOfMemory

-- the ending of a check
abbrev pub ending_of_check : Result Bool CertFault → Ending
ending_of_check (Ok true) = Good
ending_of_check (Ok false) = Not
ending_of_check (Err cert.BadLine) = Certificate cert.BadLine
ending_of_check (Err cert.OutOfOrder) = Certificate cert.OutOfOrder
ending_of_check (Err cert.NumberTooLarge) = Certificate cert.NumberTooLarge
ending_of_check (Err cert.Memory) = OutOfMemory

-- what a check prints: `yes` or `no` with a line end, and nothing where the certificate can't be read
abbrev pub text_of_check : Result Bool CertFault → List ℕ
text_of_check (Ok true) = codes "yes" ++ 10 ∷ []
text_of_check (Ok false) = codes "no" ++ 10 ∷ []
text_of_check (Err fault) = []

-- the exit status of the process, by its ending: 0 where all is well or the answer is yes, 1 where a session ended without shutdown or the
-- answer is no, and from 2 on where something went wrong
abbrev pub status_of_ending : Ending → ℕ
status_of_ending Good = 0
status_of_ending Not = 1
status_of_ending (Framing fault) = 2
status_of_ending Full = 3
status_of_ending ReadFailed = 2
status_of_ending WriteFailed = 2
status_of_ending (CannotRead path) = 2
status_of_ending (NotText path) = 2
status_of_ending (Certificate fault) = 2
status_of_ending HasStrayed = 4
status_of_ending Usage = 5
status_of_ending OutOfMemory = 6

-- the number and the name of a framing fault
abbrev pub framing_fault_text : FrameFault → List ℕ
framing_fault_text HeaderTooLong = codes "1 HeaderTooLong"
framing_fault_text BadHeader = codes "2 BadHeader"
framing_fault_text NoLength = codes "3 NoLength"
framing_fault_text TwoLengths = codes "4 TwoLengths"
framing_fault_text BadLength = codes "5 BadLength"
framing_fault_text TooLarge = codes "6 TooLarge"
framing_fault_text Truncated = codes "7 Truncated"
framing_fault_text NoMemory = codes "8 Memory"

-- the number and the name of a certificate's fault
abbrev pub cert_fault_text : CertFault → List ℕ
cert_fault_text cert.BadLine = codes "1 BadLine"
cert_fault_text cert.OutOfOrder = codes "2 OutOfOrder"
cert_fault_text cert.NumberTooLarge = codes "3 NumberTooLarge"
cert_fault_text cert.Memory = codes "4 Memory"

-- the line of an ending on standard error, without its line end; empty where none is printed
abbrev pub line_of_ending : Ending → List ℕ
line_of_ending Good = []
line_of_ending Not = []
line_of_ending (Framing fault) = codes "framing fault " ++ framing_fault_text fault
line_of_ending Full = codes "session full"
line_of_ending ReadFailed = codes "read failed"
line_of_ending WriteFailed = codes "write failed"
line_of_ending (CannotRead path) = codes "cannot read " ++ path
line_of_ending (NotText path) = codes "not a text: " ++ path
line_of_ending (Certificate fault) = codes "certificate fault " ++ cert_fault_text fault
line_of_ending HasStrayed = codes "strayed"
line_of_ending Usage = codes "usage: abnf_ls [example FILE RULE | check FILE CERT]"
line_of_ending OutOfMemory = codes "out of memory"
