-- The public functions of call have one possible answer each. Assumes nothing.
use mathlib.Core.Path.{refl}
use Rattle.one_answer.specs.One.{OneAnswer}
use Rattle.one_answer.proofs.Law.{facts, result}
use Rattle.call.specs.contracts.Call.opened as Call-opened
use Rattle.call.specs.contracts.Call.trigger as Call-trigger
use Rattle.call.specs.contracts.Call.path_found as Call-path_found
use Rattle.call.specs.contracts.Call.no_path as Call-no_path
use Rattle.call.specs.contracts.Call.connect as Call-connect
use Rattle.call.specs.contracts.Call.setup as Call-setup
use Rattle.call.specs.contracts.Call.ready as Call-ready
use Rattle.call.specs.contracts.Call.expiry as Call-expiry
use Rattle.call.specs.contracts.Call.calling_release as Call-calling_release
use Rattle.call.specs.contracts.Call.called_release as Call-called_release
use Rattle.call.specs.contracts.Call.handle as Call-handle
use Rattle.call.specs.contracts.Call.at_source as Call-at_source
use Rattle.call.specs.contracts.Call.destination_trigger as Call-destination_trigger
use Rattle.call.specs.contracts.Call.destination_path_found as Call-destination_path_found
use Rattle.call.specs.contracts.Call.destination_no_path as Call-destination_no_path
use Rattle.call.specs.contracts.Call.destination_connect as Call-destination_connect
use Rattle.call.specs.contracts.Call.destination_setup as Call-destination_setup
use Rattle.call.specs.contracts.Call.destination_ready as Call-destination_ready
use Rattle.call.specs.contracts.Call.destination_expiry as Call-destination_expiry
use Rattle.call.specs.contracts.Call.destination_called_release as Call-destination_called_release
use Rattle.call.specs.contracts.Call.destination_calling_release as Call-destination_calling_release
use Rattle.call.specs.contracts.Call.at_destination as Call-at_destination

pub Call-opened-has_one_answer : {M : Type 1} → OneAnswer M Call-opened.ended (λ 𝓤 𝓛. Call-opened.clauses 𝓛) (λ 𝓤 𝓛. Call-opened.spec 𝓛)
Call-opened-has_one_answer 𝓤 𝓛 _ _ = (refl, λ _ _ _ _ _ _ _ _. facts 𝓤 result)

pub Call-trigger-has_one_answer : {M : Type 1} → OneAnswer M Call-trigger.ended (λ 𝓤 𝓛. Call-trigger.clauses 𝓛) (λ 𝓤 𝓛. Call-trigger.spec 𝓛)
Call-trigger-has_one_answer 𝓤 𝓛 _ _ = (refl, λ _ _ _ _ _ _ _ _. facts 𝓤 result)

pub Call-path_found-has_one_answer : {M : Type 1} →
    OneAnswer M Call-path_found.ended (λ 𝓤 𝓛. Call-path_found.clauses 𝓛) (λ 𝓤 𝓛. Call-path_found.spec 𝓛)
Call-path_found-has_one_answer 𝓤 𝓛 _ _ = (refl, λ _ _ _ _ _ _ _ _. facts 𝓤 result)

pub Call-no_path-has_one_answer : {M : Type 1} → OneAnswer M Call-no_path.ended (λ 𝓤 𝓛. Call-no_path.clauses 𝓛) (λ 𝓤 𝓛. Call-no_path.spec 𝓛)
Call-no_path-has_one_answer 𝓤 𝓛 _ _ = (refl, λ _ _ _ _ _ _ _ _. facts 𝓤 result)

pub Call-connect-has_one_answer : {M : Type 1} → OneAnswer M Call-connect.ended (λ 𝓤 𝓛. Call-connect.clauses 𝓛) (λ 𝓤 𝓛. Call-connect.spec 𝓛)
Call-connect-has_one_answer 𝓤 𝓛 _ _ = (refl, λ _ _ _ _ _ _ _ _. facts 𝓤 result)

pub Call-setup-has_one_answer : {M : Type 1} → OneAnswer M Call-setup.ended (λ 𝓤 𝓛. Call-setup.clauses 𝓛) (λ 𝓤 𝓛. Call-setup.spec 𝓛)
Call-setup-has_one_answer 𝓤 𝓛 _ _ = (refl, λ _ _ _ _ _ _ _ _. facts 𝓤 result)

pub Call-ready-has_one_answer : {M : Type 1} → OneAnswer M Call-ready.ended (λ 𝓤 𝓛. Call-ready.clauses 𝓛) (λ 𝓤 𝓛. Call-ready.spec 𝓛)
Call-ready-has_one_answer 𝓤 𝓛 _ _ = (refl, λ _ _ _ _ _ _ _ _. facts 𝓤 result)

pub Call-expiry-has_one_answer : {M : Type 1} → OneAnswer M Call-expiry.ended (λ 𝓤 𝓛. Call-expiry.clauses 𝓛) (λ 𝓤 𝓛. Call-expiry.spec 𝓛)
Call-expiry-has_one_answer 𝓤 𝓛 _ _ = (refl, λ _ _ _ _ _ _ _ _. facts 𝓤 result)

pub Call-calling_release-has_one_answer : {M : Type 1} →
    OneAnswer M Call-calling_release.ended (λ 𝓤 𝓛. Call-calling_release.clauses 𝓛) (λ 𝓤 𝓛. Call-calling_release.spec 𝓛)
Call-calling_release-has_one_answer 𝓤 𝓛 _ _ = (refl, λ _ _ _ _ _ _ _ _. facts 𝓤 result)

pub Call-called_release-has_one_answer : {M : Type 1} →
    OneAnswer M Call-called_release.ended (λ 𝓤 𝓛. Call-called_release.clauses 𝓛) (λ 𝓤 𝓛. Call-called_release.spec 𝓛)
Call-called_release-has_one_answer 𝓤 𝓛 _ _ = (refl, λ _ _ _ _ _ _ _ _. facts 𝓤 result)

pub Call-handle-has_one_answer : {M : Type 1} → OneAnswer M Call-handle.ended (λ 𝓤 𝓛. Call-handle.clauses 𝓛) (λ 𝓤 𝓛. Call-handle.spec 𝓛)
Call-handle-has_one_answer 𝓤 𝓛 _ _ = (refl, λ _ _ _ _ _ _ _ _. facts 𝓤 result)

pub Call-at_source-has_one_answer : {M : Type 1} →
    OneAnswer M Call-at_source.ended (λ 𝓤 𝓛. Call-at_source.clauses 𝓛) (λ 𝓤 𝓛. Call-at_source.spec 𝓛)
Call-at_source-has_one_answer 𝓤 𝓛 _ _ = (refl, λ _ _ _ _ _ _ _ _. facts 𝓤 result)

pub Call-destination_trigger-has_one_answer : {M : Type 1} →
    OneAnswer M Call-destination_trigger.ended (λ 𝓤 𝓛. Call-destination_trigger.clauses 𝓛) (λ 𝓤 𝓛. Call-destination_trigger.spec 𝓛)
Call-destination_trigger-has_one_answer 𝓤 𝓛 _ _ = (refl, λ _ _ _ _ _ _ _ _. facts 𝓤 result)

pub Call-destination_path_found-has_one_answer : {M : Type 1} →
    OneAnswer M Call-destination_path_found.ended (λ 𝓤 𝓛. Call-destination_path_found.clauses 𝓛) (λ 𝓤 𝓛. Call-destination_path_found.spec 𝓛)
Call-destination_path_found-has_one_answer 𝓤 𝓛 _ _ = (refl, λ _ _ _ _ _ _ _ _. facts 𝓤 result)

pub Call-destination_no_path-has_one_answer : {M : Type 1} →
    OneAnswer M Call-destination_no_path.ended (λ 𝓤 𝓛. Call-destination_no_path.clauses 𝓛) (λ 𝓤 𝓛. Call-destination_no_path.spec 𝓛)
Call-destination_no_path-has_one_answer 𝓤 𝓛 _ _ = (refl, λ _ _ _ _ _ _ _ _. facts 𝓤 result)

pub Call-destination_connect-has_one_answer : {M : Type 1} →
    OneAnswer M Call-destination_connect.ended (λ 𝓤 𝓛. Call-destination_connect.clauses 𝓛) (λ 𝓤 𝓛. Call-destination_connect.spec 𝓛)
Call-destination_connect-has_one_answer 𝓤 𝓛 _ _ = (refl, λ _ _ _ _ _ _ _ _. facts 𝓤 result)

pub Call-destination_setup-has_one_answer : {M : Type 1} →
    OneAnswer M Call-destination_setup.ended (λ 𝓤 𝓛. Call-destination_setup.clauses 𝓛) (λ 𝓤 𝓛. Call-destination_setup.spec 𝓛)
Call-destination_setup-has_one_answer 𝓤 𝓛 _ _ = (refl, λ _ _ _ _ _ _ _ _. facts 𝓤 result)

pub Call-destination_ready-has_one_answer : {M : Type 1} →
    OneAnswer M Call-destination_ready.ended (λ 𝓤 𝓛. Call-destination_ready.clauses 𝓛) (λ 𝓤 𝓛. Call-destination_ready.spec 𝓛)
Call-destination_ready-has_one_answer 𝓤 𝓛 _ _ = (refl, λ _ _ _ _ _ _ _ _. facts 𝓤 result)

pub Call-destination_expiry-has_one_answer : {M : Type 1} →
    OneAnswer M Call-destination_expiry.ended (λ 𝓤 𝓛. Call-destination_expiry.clauses 𝓛) (λ 𝓤 𝓛. Call-destination_expiry.spec 𝓛)
Call-destination_expiry-has_one_answer 𝓤 𝓛 _ _ = (refl, λ _ _ _ _ _ _ _ _. facts 𝓤 result)

pub Call-destination_called_release-has_one_answer : {M : Type 1} →
    OneAnswer M Call-destination_called_release.ended (λ 𝓤 𝓛. Call-destination_called_release.clauses 𝓛) (λ 𝓤 𝓛. Call-destination_called_release.spec 𝓛)
Call-destination_called_release-has_one_answer 𝓤 𝓛 _ _ = (refl, λ _ _ _ _ _ _ _ _. facts 𝓤 result)

pub Call-destination_calling_release-has_one_answer : {M : Type 1} →
    OneAnswer M Call-destination_calling_release.ended (λ 𝓤 𝓛. Call-destination_calling_release.clauses 𝓛) (λ 𝓤 𝓛. Call-destination_calling_release.spec 𝓛)
Call-destination_calling_release-has_one_answer 𝓤 𝓛 _ _ = (refl, λ _ _ _ _ _ _ _ _. facts 𝓤 result)

pub Call-at_destination-has_one_answer : {M : Type 1} →
    OneAnswer M Call-at_destination.ended (λ 𝓤 𝓛. Call-at_destination.clauses 𝓛) (λ 𝓤 𝓛. Call-at_destination.spec 𝓛)
Call-at_destination-has_one_answer 𝓤 𝓛 _ _ = (refl, λ _ _ _ _ _ _ _ _. facts 𝓤 result)
