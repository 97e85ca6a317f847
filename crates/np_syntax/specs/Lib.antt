pub mod ActionForm
pub mod DomainForm
pub mod DomainText
pub mod Domains
pub mod SectionForm
pub mod SectionText
