-- The number and the text of a refusal to read an image.
use Rattle.std.specs.Prelude.{ℕ, List, [], ◌++◌, codes}
use Rattle.std.specs.Fmt.{decimal}
use Rattle.fd_imgfile.specs.declared.fault.ImageFault.{ImageFault}
use Rattle.fd_imgfile.specs.declared.fault.ImageFault.TheVariants.{NoFile, NotImage, BadImage, SiteFault, NoMemory}

-- a fault of the site and want of memory refuse nothing, and have neither number nor text
abbrev pub image_number : ImageFault → ℕ
image_number NoFile = 41
image_number (NotImage place) = 42
image_number (BadImage bad) = 43
image_number SiteFault = 0
image_number NoMemory = 0

abbrev pub image_text : ImageFault → List ℕ
image_text NoFile = codes "no file"
image_text (NotImage place) = codes "not an image at " ++ decimal place
image_text (BadImage bad) = codes "rule " ++ (decimal bad.rule ++ (codes " at " ++ decimal bad.place))
image_text SiteFault = []
image_text NoMemory = []
