-- An event record of the trace, read (01, "The trace", and decisions 22 and 23 on what is not read). Assumes nothing.
use Rattle.std.specs.Prelude.{ℕ, ◌+◌, ◌*◌, cond, List, eqb, ltb, get_or, Option, None, Some}
use Rattle.signal.specs.declared.Crankback.{Crankback}
use Rattle.signal.specs.declared.Crankback.TheVariants.{NoCrankback, AlternateFound, NoAlternate}
use Rattle.signal.specs.declared.ReroutingCause.{ReroutingCause}
use Rattle.signal.specs.declared.Soft.{Soft}
use Rattle.signal.specs.declared.Soft.TheVariants.{NoSoft, Asymmetric, Symmetric}
use Rattle.events.specs.declared.Event.TheVariants.{Trigger, PathFound, NoPath, Connect, Setup, FromParty, FromDomain, Ready, Expiry}
use Rattle.events.specs.declared.Act.TheVariants.{Opens, Meets}
use Rattle.events.specs.declared.Node.{Node}
use Rattle.events.specs.declared.Node.TheVariants.{Source, Destination}
use Rattle.events.specs.declared.Act.{Act}
use Rattle.event_record.specs.declared.Decoded.{Decoded}

abbrev pub octet : List ℕ → ℕ → ℕ
octet os i = get_or os i 0

-- four octets, big-endian
abbrev pub number_of : ℕ → ℕ → ℕ → ℕ → ℕ
number_of a b c d = (a * 256 + b) * 65536 + (c * 256 + d)

-- soft 0 to 2, and crankback 0 to 2, in the order of 01's words; a number above is bad before it comes here
abbrev pub soft_of : ℕ → Soft
soft_of n = cond (eqb n 0) NoSoft (cond (eqb n 1) Asymmetric Symmetric)

abbrev pub crankback_of : ℕ → Crankback
crankback_of n = cond (eqb n 0) NoCrankback (cond (eqb n 1) AlternateFound NoAlternate)

-- byte 1: whether a cause is there; byte 2 is not read where none is
abbrev pub cause_of : ℕ → ℕ → Option ReroutingCause
cause_of present n = cond (eqb present 0) None (Some (record { number = n }))

-- open: byte 1 is 0 for default services, and bytes 2 and 3 are then not read
abbrev pub open_of : ℕ → ℕ → ℕ → Option Act
open_of named hard soft =
    cond (eqb named 0) (Some (Opens None))
    (cond (ltb 1 named) None
    (cond (ltb 1 hard) None
    (cond (ltb 2 soft) None (Some (Opens (Some (record { hard = eqb hard 1; soft = soft_of soft })))))))

-- connect: byte 1 is policy; a connection number above 65,535 is bad
abbrev pub connect_of : ℕ → ℕ → Option Act
connect_of policy connection =
    cond (ltb 1 policy) None (cond (ltb 65535 connection) None (Some (Meets (Connect connection (eqb policy 1)))))

-- a release from the calling side: crankback is named of every release, and tested here too
abbrev pub calling_of : ℕ → ℕ → ℕ → Option Act
calling_of present n back = cond (ltb 1 present) None (cond (ltb 2 back) None (Some (Meets (FromParty (cause_of present n)))))

-- and from the called side, for a connection
abbrev pub called_of : ℕ → ℕ → ℕ → ℕ → Option Act
called_of present n back connection =
    cond (ltb 1 present) None
    (cond (ltb 2 back) None
    (cond (ltb 65535 connection) None (Some (Meets (FromDomain connection (cause_of present n) (crankback_of back))))))

-- the events that are only a key
abbrev pub plain_of : ℕ → Option Act
plain_of kind =
    cond (eqb kind 1) (Some (Meets Trigger))
    (cond (eqb kind 2) (Some (Meets PathFound))
    (cond (eqb kind 3) (Some (Meets NoPath))
    (cond (eqb kind 8) (Some (Meets Ready))
    (cond (eqb kind 9) (Some (Meets Expiry)) None))))

-- byte 0 is the kind; of a setup, byte 1 is the switchover code, whatever it is
abbrev pub request_of : ℕ → ℕ → ℕ → ℕ → ℕ → Option Act
request_of kind first second third number =
    cond (eqb kind 0) (open_of first second third)
    (cond (eqb kind 4) (connect_of first number)
    (cond (eqb kind 5) (Some (Meets (Setup (record { code = first }) number)))
    (cond (eqb kind 6) (calling_of first second third)
    (cond (eqb kind 7) (called_of first second third number) (plain_of kind)))))

-- byte 0 names a release by its side: 6 calling, 7 called. At the destination the calling side's is the one from across the domain, which
-- names a connection; so there 6 and 7 change places
abbrev pub kind_at : Node → ℕ → ℕ
kind_at Source kind = kind
kind_at Destination kind = cond (eqb kind 6) 7 (cond (eqb kind 7) 6 kind)

-- bytes 4 to 7 are the key, 8 to 11 the incarnation or connection number
abbrev pub decoded_at : Node → List ℕ → Decoded
decoded_at node os =
    record {
      key = number_of (octet os 4) (octet os 5) (octet os 6) (octet os 7);
      request =
          request_of (kind_at node (octet os 0)) (octet os 1) (octet os 2) (octet os 3)
          (number_of (octet os 8) (octet os 9) (octet os 10) (octet os 11));
    }

-- at the source
abbrev pub decoded_of : List ℕ → Decoded
decoded_of os = decoded_at Source os
