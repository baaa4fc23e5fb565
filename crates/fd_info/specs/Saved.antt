-- A dump that was saved to files.
use Rattle.std.specs.Prelude.{◌≡◌, ℕ, true, IsTrue, List, Some}
use Rattle.fd_site.specs.Contents.{Contents, file_of}
use Rattle.fd_site.specs.Journal.{stable_after}
use Rattle.fd_kdh.specs.declared.header.Header.{Header}
use Rattle.fd_info.specs.Info.{info_text}
use Rattle.fd_info.specs.Name.{info_name, vmcore_name}

-- a file of a site has these bytes, and a machine that stops leaves it so
pub record IsStable (c : Contents) (name bytes : List ℕ) : Type 0 where
  pub file : file_of c name ≡ Some bytes
  pub stable : IsTrue (stable_after name true c.journal)

-- the dump with these bytes and this header, found on a device with this parity word, is saved under a number
pub record IsSaved (c : Contents) (number : ℕ) (body : List ℕ) (h : Header) (device : List ℕ) (parity : ℕ) : Type 0 where
  pub vmcore : IsStable c (vmcore_name number) body
  pub info : IsStable c (info_name number) (info_text h device parity number)
